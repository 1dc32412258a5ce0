-- What a calendar holds.
use Rattle.std.specs.Prelude.{ℕ, List}
use Rattle.crs_agenda.specs.declared.timed.Timed.{Timed}

-- pairs of a date and a handle, in any order, and the date at which the calendar stands
pub record Schedule : Type 0 where
  pub pairs : List Timed
  pub date : ℕ
