use Rattle.std.proofs.Common.{length, map}
use Rattle.crs_base.specs.Seen.{entry_of}
use Rattle.crs_engine.proofs.Settling.{AreInPiece}
use Rattle.crs_engine.proofs.moving.take_piece.Given as goal

abbrev pub invariant-loop-entry : goal.invariant-loop-entry
invariant-loop-entry l = AreInPiece l.h l.date (map (λ r. entry_of r.value) l.due.items) (entry_of l.fn.first.value) l.initial.buffer l.buffer

abbrev pub decreases-loop-entry : goal.decreases-loop-entry
decreases-loop-entry l = length l.buffer
