use Rattle.std.proofs.Common.{length}
use Rattle.crs_log_hints.proofs.signs.declared_names.Given as goal

abbrev pub decreases-loop-rest : goal.decreases-loop-rest
decreases-loop-rest l = length l.rest
