use Rattle.std.proofs.Common.{length}
use Rattle.crs_layers.proofs.advancing.+mark_from.Given as goal

abbrev pub decreases-mark_from : goal.decreases-mark_from
decreases-mark_from g l = length l.layers.now
