use Rattle.std.proofs.Common.{◌-◌, ◌≤◌, length}
use Rattle.crs_agenda.specs.Places.{AreEmptyBefore}
use Rattle.crs_agenda.proofs.rows.first_full.Given as goal

abbrev pub invariant-loop-at : goal.invariant-loop-at
invariant-loop-at l = AreEmptyBefore l.at l.buckets × (l.at ≤ length l.buckets)

abbrev pub decreases-loop-at : goal.decreases-loop-at
decreases-loop-at l = length l.buckets - l.at
