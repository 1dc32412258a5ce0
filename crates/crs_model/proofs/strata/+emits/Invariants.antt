use Rattle.std.proofs.Common.{length}
use Rattle.crs_model.proofs.strata.+emits.Given as goal

abbrev pub decreases-emits : goal.decreases-emits
decreases-emits l = length l.emits_of.now
