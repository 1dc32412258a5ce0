use Rattle.std.proofs.Common.{length}
use Rattle.crs_layers.proofs.starting.+pick.Given as goal

abbrev pub decreases-pick : goal.decreases-pick
decreases-pick l = length l.plans.now
