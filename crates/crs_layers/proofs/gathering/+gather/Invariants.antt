use Rattle.std.proofs.Common.{length}
use Rattle.crs_layers.proofs.gathering.+gather.Given as goal

abbrev pub decreases-gather : goal.decreases-gather
decreases-gather l = length l.layers.now
