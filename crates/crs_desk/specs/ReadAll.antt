-- What read_all tells.
use Rattle.std.specs.Prelude.{◌≡◌, ℕ, ◌+◌, ◌≤◌, List, length, Result, Ok, Err, IsErrOf, Vec}
use Rattle.std.specs.List.{AllByRecursion}
use Rattle.std.specs.declared.alloc.Global.{Global}
use Rattle.crs_desk.specs.Desk.{Told, stream_at, Took, Rises, HasRoom, Rose}
use Rattle.crs_desk.specs.declared.whole.ReadAllError.{ReadAllError}
use Rattle.crs_desk.specs.declared.whole.ReadAllError.TheVariants.{Failed, Long, Memory}
use Rattle.crs_desk.specs.declared.turn.Turn.{Turn}

pub record ReadAllCause {T : Type 0} (before now : ℕ) (result : Result T ReadAllError) : Type 0 where
  pub later : before ≤ now
  pub failed : IsErrOf result Failed → Rose before now

-- how many bytes were taken, where that is so
abbrev pub AsAnswered : List ℕ → ℕ → ℕ → Result (Vec ℕ Global) ReadAllError → Type 0
AsAnswered rest limit k (Ok v) = (v.items ≡ rest) × (k ≡ length rest) × (k ≤ limit)
AsAnswered rest limit k (Err Long) = k ≡ limit + 1
AsAnswered rest limit k (Err Failed) = k ≤ limit
AsAnswered rest limit k (Err Memory) = k ≤ limit + 1

-- k bytes were taken in rising turns, each with the room that is left to one byte more than the limit
pub record ReadsAll (old : Told) (input limit : ℕ) (result : Result (Vec ℕ Global) ReadAllError) (new : Told) : Type 0 where
  pub k : ℕ
  pub more : List Turn
  pub took : Took old input k more new
  pub rises : Rises input (stream_at old.left input).taken ((stream_at old.left input).taken + k + 1) more
  pub rooms : AllByRecursion (HasRoom ((stream_at old.left input).taken + (limit + 1))) more
  pub answered : AsAnswered (stream_at old.left input).rest limit k result
