use Rattle.std.proofs.Common.{length}
use Rattle.crs_compile.proofs.lag.+is_some_infinite.Given as goal

abbrev pub decreases-is_some_infinite : goal.decreases-is_some_infinite
decreases-is_some_infinite l = length l.plans.now
