use Rattle.std.proofs.Common.{length}
use Rattle.crs_model.proofs.strata.+above_all.Given as goal

abbrev pub decreases-above_all : goal.decreases-above_all
decreases-above_all l = length l.names.now
