use Rattle.crs_commands.proofs.AuditPlans.{plans_all}
use Rattle.crs_commands.proofs.auditing.plans_for_audit.Goals as goal

pub returns-clause-ok : goal.returns-clause-ok
returns-clause-ok c = plans_all c.args.limit c.args.text.now c.read_lone_plans.result c.read_lone_plans.ensures.ok
