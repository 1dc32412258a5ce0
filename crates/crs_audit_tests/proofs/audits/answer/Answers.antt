use Rattle.crs_audit_tests.proofs.Loaded.{can_audit}
use Rattle.crs_audit_tests.proofs.audits.answer.Goals as goal

pub audit-told-requires : goal.audit-told-requires
audit-told-requires c =
    can_audit c.in_ok-models-2.models c.in_ok-plans.plans c.read_models.new.symbols c.in_ok-models-2.ensures.proper c.in_ok-models-2.ensures.numbered c.in_ok-models-2.ensures.distinct
    c.in_ok-plans.ensures.names c.in_ok-plans.ensures.chronicles c.in_ok-plans.ensures.plans
