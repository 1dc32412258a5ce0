use Rattle.std.proofs.Common.{rules, inr, refl}
use Rattle.crs_focus.specs.PlanLevels.{levels_in}
use Rattle.crs_focus.proofs.Awaiting.{whole_none, last_flat}
use Rattle.crs_focus.proofs.awaited.last_date.Goals as goal

pub returns-then-is_whole : goal.returns-then-is_whole
returns-then-is_whole c = inr (whole_none (levels_in c.args.plan.now c.args.focus) c.args.instance.now.partial (search rules), refl)

pub returns-then-not-focus : goal.returns-then-not-focus
returns-then-not-focus c = last_flat c.args.plan.now c.args.focus (search rules) c.args.instance.now (search rules) c.deadline.result c.deadline.ensures
