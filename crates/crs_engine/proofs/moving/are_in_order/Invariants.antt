use Rattle.std.proofs.Common.{length, map}
use Rattle.crs_base.specs.Seen.{entry_of}
use Rattle.crs_engine.specs.Moves.{AreInOrder}
use Rattle.crs_engine.proofs.moving.are_in_order.Given as goal

abbrev pub invariant-loop-entry : goal.invariant-loop-entry
invariant-loop-entry l = AreInOrder l.ranks (map (λ r. entry_of r.value) l.left) → AreInOrder l.ranks (map (λ r. entry_of r.value) l.due)

abbrev pub decreases-loop-entry : goal.decreases-loop-entry
decreases-loop-entry l = length l.left
