-- When a desk in memory fails, and how much it moves at once.
use Rattle.std.specs.Prelude.{◌≡◌, ◌==◌, ℕ, ◌+◌, ◌-◌, ◌^◌, min, List, [], ◌∷◌, ◌++◌, slice_set, slice_index_or, Option, Some, None, Result, Ok, Err, IsErrOf, OnOk, Bool, true, false, ◌||◌, ◌&&◌}
use Rattle.std.specs.List.{list_any}
use Rattle.std.specs.Option.{is_none}
use Rattle.std.specs.Str.{bytes_eq}
use Rattle.crs_desk.specs.Desk.{Told, file_of}
use Rattle.crs_desk.specs.declared.desk.DeskError.{DeskError}
use Rattle.crs_desk.specs.declared.desk.DeskError.TheVariants.{Failed, Memory}

-- The calls that were answered, want of memory aside, and those that fail.
pub record Schedule : Type 0 where
  -- the most bytes that a call moves, where that is bounded
  pub piece : Option ℕ
  -- how often open was called
  pub opens : ℕ
  -- per input its name, and how often it was read
  pub reads : List (List ℕ × ℕ)
  -- how often write was called
  pub writes : ℕ
  -- the numbers of the calls that fail, counted from 1; of reads with the input's name
  pub failing_opens : List ℕ
  pub failing_reads : List (List ℕ × ℕ)
  pub failing_writes : List ℕ

-- a desk that moves what it can and fails at nothing
abbrev pub untouched : Schedule
untouched = record { piece = None; opens = 0; reads = []; writes = 0; failing_opens = []; failing_reads = []; failing_writes = [] }

-- one more, up to the last value of a count
abbrev pub raised : ℕ → ℕ
raised n = min (n + 1) (2 ^ 64 - 1)

-- a count of faults after a call
abbrev pub raised_by : {T : Type 0} → Result T DeskError → ℕ → ℕ
raised_by (Err Failed) n = raised n
raised_by (Err Memory) n = n
raised_by (Ok _) n = n

abbrev pub is_failing_call : List ℕ → ℕ → Bool
is_failing_call failing n = list_any (λ m. m == n) failing

abbrev pub is_failing_read : List (List ℕ × ℕ) → List ℕ → ℕ → Bool
is_failing_read failing name n = list_any (λ f. bytes_eq f.0 name && f.1 == n) failing

-- how many of so many bytes move at once
abbrev pub moved_of : Option ℕ → ℕ → ℕ
moved_of None most = most
moved_of (Some piece) most = min piece most

-- an input's name, and how often it was read
abbrev pub reads_of : Schedule → ℕ → List ℕ × ℕ
reads_of s input = slice_index_or s.reads input ([], 0)

-- whether the next open of this name fails
abbrev pub open_fails : Schedule → Told → List ℕ → Bool
open_fails s t name = is_failing_call s.failing_opens (raised s.opens) || is_none (file_of t.files name)

-- whether the next read of this input fails
abbrev pub read_fails : Schedule → ℕ → Bool
read_fails s input = let r = reads_of s input in is_failing_read s.failing_reads r.0 (raised r.1)

-- whether the next write fails
abbrev pub write_fails : Schedule → Bool
write_fails s = is_failing_call s.failing_writes (raised s.writes)

-- a call fails exactly where that is so, want of memory aside
pub record FailsWhere {T : Type 0} (fails : Bool) (result : Result T DeskError) : Type 0 where
  pub ok : OnOk result (fails ≡ false)
  pub failed : IsErrOf result Failed → fails ≡ true

-- what the calls make of a schedule
abbrev pub after_open : Schedule → List ℕ → Result ℕ DeskError → Schedule
after_open s name (Err Memory) = s
after_open s name (Err Failed) = record s { opens = raised s.opens }
after_open s name (Ok _) = record s { opens = raised s.opens; reads = s.reads ++ (name, 0) ∷ [] }

abbrev pub read_once : Schedule → ℕ → Schedule
read_once s input = let r = reads_of s input in record s { reads = slice_set s.reads input (r.0, raised r.1) }

abbrev pub after_read : Schedule → ℕ → Result ℕ DeskError → Schedule
after_read s input (Err Memory) = s
after_read s input (Err Failed) = read_once s input
after_read s input (Ok _) = read_once s input

abbrev pub after_write : Schedule → Result ℕ DeskError → Schedule
after_write s (Err Memory) = s
after_write s (Err Failed) = record s { writes = raised s.writes }
after_write s (Ok _) = record s { writes = raised s.writes }
