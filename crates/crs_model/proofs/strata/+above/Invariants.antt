use Rattle.std.proofs.Common.{length}
use Rattle.crs_model.proofs.strata.+above.Given as goal

abbrev pub decreases-above : goal.decreases-above
decreases-above l = length l.plans.now
