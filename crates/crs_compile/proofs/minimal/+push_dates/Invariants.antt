use Rattle.std.proofs.Common.{length}
use Rattle.crs_compile.proofs.minimal.+push_dates.Given as goal

abbrev pub decreases-push_dates : goal.decreases-push_dates
decreases-push_dates l = length l.points.now
