use Rattle.std.proofs.Common.{◌≡◌, ◌+◌, ◌-◌, ℕ, get_or, [], length}
use Rattle.crs_agenda.specs.Places.{pairs_of}
use Rattle.crs_agenda.proofs.rows.open_to.Given as goal

abbrev pub invariant-loop-alloc : goal.invariant-loop-alloc
invariant-loop-alloc l = (pairs_of l.buckets.items ≡ pairs_of l.fn.buckets.items) × ((c : ℕ) → get_or l.buckets.items c [] ≡ get_or l.fn.buckets.items c [])

abbrev pub decreases-loop-alloc : goal.decreases-loop-alloc
decreases-loop-alloc l = l.at + 1 - length l.buckets.items
