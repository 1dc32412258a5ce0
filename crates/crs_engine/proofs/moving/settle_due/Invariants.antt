use Rattle.std.proofs.Common.{length, map}
use Rattle.crs_base.specs.Seen.{entry_of}
use Rattle.crs_engine.proofs.Settling.{AreSettledSoFar, AreRankedSoFar}
use Rattle.crs_engine.proofs.moving.settle_due.Given as goal

abbrev pub invariant-loop-entry : goal.invariant-loop-entry
invariant-loop-entry g l = record {
  so : AreSettledSoFar l.initial.stores l.initial.history (map (λ r. entry_of r.value) l.due) l.buffer l.h l.stores l.history (map (λ r. entry_of r.value) l.left);
  ranked : AreRankedSoFar l.names.ranks.value.items l.behind l.buffer l.stores (map (λ r. entry_of r.value) l.left);
}

abbrev pub decreases-loop-entry : goal.decreases-loop-entry
decreases-loop-entry g l = length l.left
