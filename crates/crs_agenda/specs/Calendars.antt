-- What is true of the fields of a calendar.
use Rattle.std.specs.Prelude.{◌≡◌, ℕ, ◌≤◌, List, All, length}
use Rattle.crs_agenda.specs.declared.timed.Timed.{Timed}
use Rattle.crs_agenda.specs.Places.{InPlace, pairs_of}

-- each pair stands in its bucket, and none is dated before the date that is waited for
pub record IsCalendar (base now wait size : ℕ) (buckets : List (List Timed)) : Type 0 where
  pub in_place : InPlace base buckets
  pub counted : size ≡ length (pairs_of buckets)
  pub start : base ≤ now
  pub later : now ≤ wait
  pub waits : All (λ t. wait ≤ t.date) (pairs_of buckets)
