use Rattle.std.proofs.Common.{length}
use Rattle.crs_layers.proofs.layer.+kept_by.Given as goal

abbrev pub decreases-kept_by : goal.decreases-kept_by
decreases-kept_by l = length l.layers.now
