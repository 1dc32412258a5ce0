use Rattle.std.proofs.Common.{length}
use Rattle.crs_layers.proofs.starting.+reach_of_all.Given as goal

abbrev pub decreases-reach_of_all : goal.decreases-reach_of_all
decreases-reach_of_all l = length l.plans.now
