use Rattle.std.proofs.Common.{length}
use Rattle.crs_log_hints.proofs.signs.has_mark.Given as goal

abbrev pub decreases-loop-rest : goal.decreases-loop-rest
decreases-loop-rest l = length l.rest
