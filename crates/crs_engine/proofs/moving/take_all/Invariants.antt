use Rattle.std.proofs.Common.{length, map}
use Rattle.crs_base.specs.Seen.{entry_of}
use Rattle.crs_engine.proofs.Settling.{AreTakenOut}
use Rattle.crs_engine.proofs.moving.take_all.Given as goal

abbrev pub invariant-loop-entry : goal.invariant-loop-entry
invariant-loop-entry l = AreTakenOut l.initial.fresh (map (λ r. entry_of r.value) l.due.items) l.fresh

abbrev pub decreases-loop-entry : goal.decreases-loop-entry
decreases-loop-entry l = length l.fresh
