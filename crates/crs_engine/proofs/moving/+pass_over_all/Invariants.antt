use Rattle.std.proofs.Common.{length}
use Rattle.crs_engine.proofs.moving.+pass_over_all.Given as goal

abbrev pub decreases-pass_over_all : goal.decreases-pass_over_all
decreases-pass_over_all l = length l.stores.now
