use Rattle.std.proofs.Common.{length}
use Rattle.crs_compile.proofs.minimal.+push_lines_of_point.Given as goal

abbrev pub decreases-push_lines_of_point : goal.decreases-push_lines_of_point
decreases-push_lines_of_point l = length l.later.now
