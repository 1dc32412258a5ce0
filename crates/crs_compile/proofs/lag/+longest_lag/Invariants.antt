use Rattle.std.proofs.Common.{length}
use Rattle.crs_compile.proofs.lag.+longest_lag.Given as goal

abbrev pub decreases-longest_lag : goal.decreases-longest_lag
decreases-longest_lag l = length l.emits.now
