use Rattle.std.proofs.Common.{length}
use Rattle.crs_compile.proofs.lag.+top_of.Given as goal

abbrev pub decreases-top_of : goal.decreases-top_of
decreases-top_of l = length l.strata.now
