use Rattle.std.proofs.Common.{length, map}
use Rattle.crs_living.proofs.Hopeless.{AllMiss}
use Rattle.crs_base.specs.Seen.{entry_of}
use Rattle.crs_living.proofs.hope.one_comes_by.Given as goal

abbrev pub invariant-loop-entry : goal.invariant-loop-entry
invariant-loop-entry l = AllMiss l.name l.last (map (λ r. entry_of r.value) l.left) → AllMiss l.name l.last (map (λ r. entry_of r.value) l.ahead)

abbrev pub decreases-loop-entry : goal.decreases-loop-entry
decreases-loop-entry l = length l.left
