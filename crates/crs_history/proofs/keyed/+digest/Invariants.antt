use Rattle.std.proofs.Common.{length}
use Rattle.crs_history.proofs.keyed.+digest.Given as goal

abbrev pub decreases-digest : goal.decreases-digest
decreases-digest l = length l.args.now
