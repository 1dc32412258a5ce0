use Rattle.std.proofs.Common.{arith}
use Rattle.crs_instance.proofs.SpanSays.{end_least}
use Rattle.crs_instance.proofs.narrowing.earlier.Goals as goal

pub returns : goal.returns
returns c = grind (arith, end_least)
