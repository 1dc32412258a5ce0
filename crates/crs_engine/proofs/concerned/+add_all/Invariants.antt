use Rattle.std.proofs.Common.{length}
use Rattle.crs_engine.proofs.concerned.+add_all.Given as goal

abbrev pub decreases-add_all : goal.decreases-add_all
decreases-add_all l = length l.plans.now
