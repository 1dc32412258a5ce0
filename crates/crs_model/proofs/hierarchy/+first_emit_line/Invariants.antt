use Rattle.std.proofs.Common.{length}
use Rattle.crs_model.proofs.hierarchy.+first_emit_line.Given as goal

abbrev pub decreases-first_emit_line : goal.decreases-first_emit_line
decreases-first_emit_line l = length l.plans.now
