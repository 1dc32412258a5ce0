use Rattle.std.proofs.Common.{arith}
use Rattle.crs_instance.proofs.SpanSays.{start_some}
use Rattle.crs_instance.proofs.narrowing.date_before.Goals as goal

pub returns-in-Some : goal.returns-in-Some
returns-in-Some c = grind (arith, start_some)
