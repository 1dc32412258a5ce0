use Rattle.std.proofs.Common.{refl}
use Rattle.std.specs.Fmt.{digits}
use Rattle.crs_drill.specs.Drill.{next, lines_behind}
use Rattle.crs_drill.proofs.laws.seven_makes.Goals as goal

pub returns : goal.returns
unfolding next lines_behind digits
returns c = refl
