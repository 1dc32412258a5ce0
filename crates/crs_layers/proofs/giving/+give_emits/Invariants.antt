use Rattle.std.proofs.Common.{length}
use Rattle.crs_layers.proofs.giving.+give_emits.Given as goal

abbrev pub decreases-give_emits : goal.decreases-give_emits
decreases-give_emits l = length l.emits.now
