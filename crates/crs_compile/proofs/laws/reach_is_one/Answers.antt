use Rattle.crs_compile.proofs.Unique.{one_reach}
use Rattle.crs_compile.proofs.laws.reach_is_one.Goals as goal

pub returns : goal.returns
returns c = one_reach
