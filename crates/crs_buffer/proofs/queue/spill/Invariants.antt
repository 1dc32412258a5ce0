use Rattle.std.proofs.Common.{◌≡◌, ◌++◌, length}
use Rattle.crs_buffer.proofs.queue.spill.Given as goal

abbrev pub invariant-loop-set : goal.invariant-loop-set
invariant-loop-set l = l.set.keys ++ l.queue.items ≡ l.initial.set.keys ++ l.initial.queue.items

abbrev pub decreases-loop-set : goal.decreases-loop-set
decreases-loop-set l = length l.queue.items
