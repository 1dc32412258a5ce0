use Rattle.std.proofs.Common.{◌≡◌, ◌+◌, ◌-◌, length, ℕ}
use Rattle.crs_index.specs.KeyNumbers.{slot, table}
use Rattle.crs_index.proofs.numbers.open_rows.Given as goal

abbrev pub invariant-loop-alloc : goal.invariant-loop-alloc
invariant-loop-alloc l = (c f : ℕ) → slot (table l.direct.items) c f ≡ slot (table l.initial.direct.items) c f

abbrev pub decreases-loop-alloc : goal.decreases-loop-alloc
decreases-loop-alloc l = (l.class + 1) - length l.direct.items
