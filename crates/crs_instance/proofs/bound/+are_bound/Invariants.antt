use Rattle.std.proofs.Common.{length}
use Rattle.crs_instance.proofs.bound.+are_bound.Given as goal

abbrev pub decreases-are_bound : goal.decreases-are_bound
decreases-are_bound l = length l.terms.now
