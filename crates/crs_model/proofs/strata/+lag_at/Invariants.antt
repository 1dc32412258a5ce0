use Rattle.std.proofs.Common.{length}
use Rattle.crs_model.proofs.strata.+lag_at.Given as goal

abbrev pub decreases-lag_at : goal.decreases-lag_at
decreases-lag_at l = length l.plans.now
