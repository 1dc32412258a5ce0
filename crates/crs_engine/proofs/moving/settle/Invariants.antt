use Rattle.std.proofs.Common.{length}
use Rattle.crs_engine.proofs.Settling.{AreSettledByPieces}
use Rattle.crs_engine.proofs.moving.settle.Given as goal

abbrev pub invariant-loop-first : goal.invariant-loop-first
invariant-loop-first g l = AreSettledByPieces l.initial.stores l.initial.entries.history l.initial.entries.buffer l.h l.stores l.entries.history l.entries.buffer

abbrev pub decreases-loop-first : goal.decreases-loop-first
decreases-loop-first g l = length l.entries.buffer
