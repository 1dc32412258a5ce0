use Rattle.std.proofs.Common.{◌≤◌, length, drop}
use Rattle.crs_buffer.specs.Queues.{ComesBefore}
use Rattle.crs_buffer.proofs.queue.place_of.Given as goal

abbrev pub invariant-loop-left : goal.invariant-loop-left
invariant-loop-left l = record { within : l.place ≤ length l.queue.items; after : ComesBefore l.held (drop l.place l.queue.items) }

abbrev pub decreases-loop-left : goal.decreases-loop-left
decreases-loop-left l = l.left
