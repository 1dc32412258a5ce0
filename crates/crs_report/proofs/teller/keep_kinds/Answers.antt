use Rattle.std.proofs.Common.{rules}
use Rattle.crs_report.proofs.Lists.{kept}
use Rattle.crs_report.proofs.teller.keep_kinds.Goals as goal

pub returns : goal.returns
returns g c =
    kept (λ b. ((goal.Listener-dyn g (b.vtable, b.value)).kind b.value, (goal.Listener-dyn g (b.vtable, b.value)).figures b.value)) c.args.chosen.now _ _ _ c.retain.ensures.filtered (λ b is f' k. search rules)
