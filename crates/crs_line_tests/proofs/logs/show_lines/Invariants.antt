use Rattle.std.proofs.Common.{length}
use Rattle.crs_line_tests.proofs.logs.show_lines.Given as goal

abbrev pub decreases-loop-line : goal.decreases-loop-line
decreases-loop-line l = length l.lines.rest
