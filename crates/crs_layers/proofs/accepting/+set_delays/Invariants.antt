use Rattle.std.proofs.Common.{length}
use Rattle.crs_layers.proofs.accepting.+set_delays.Given as goal

abbrev pub decreases-set_delays : goal.decreases-set_delays
decreases-set_delays l = length l.layers.now
