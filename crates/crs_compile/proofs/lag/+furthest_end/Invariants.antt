use Rattle.std.proofs.Common.{length}
use Rattle.crs_compile.proofs.lag.+furthest_end.Given as goal

abbrev pub decreases-furthest_end : goal.decreases-furthest_end
decreases-furthest_end l = length l.windows.now
