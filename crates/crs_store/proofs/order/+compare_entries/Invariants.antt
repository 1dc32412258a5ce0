use Rattle.std.proofs.Common.{length}
use Rattle.crs_store.proofs.order.+compare_entries.Given as goal

abbrev pub decreases-compare_entries : goal.decreases-compare_entries
decreases-compare_entries l = length l.these.now
