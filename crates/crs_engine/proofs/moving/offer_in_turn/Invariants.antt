use Rattle.std.proofs.Common.{length, map}
use Rattle.crs_base.specs.Seen.{entry_of}
use Rattle.crs_engine.proofs.Settling.{AreGivenSoFar}
use Rattle.crs_engine.proofs.moving.offer_in_turn.Given as goal

abbrev pub invariant-loop-entry : goal.invariant-loop-entry
invariant-loop-entry g l = AreGivenSoFar l.initial.stores l.history (map (λ r. entry_of r.value) l.due) l.h l.stores (map (λ r. entry_of r.value) l.left)

abbrev pub decreases-loop-entry : goal.decreases-loop-entry
decreases-loop-entry g l = length l.left
