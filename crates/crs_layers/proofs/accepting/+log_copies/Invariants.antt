use Rattle.std.proofs.Common.{length}
use Rattle.crs_layers.proofs.accepting.+log_copies.Given as goal

abbrev pub decreases-log_copies : goal.decreases-log_copies
decreases-log_copies l = length l.layers.now
