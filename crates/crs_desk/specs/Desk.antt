-- What a desk tells of the outside, and what each of its calls does to that.
use Rattle.std.specs.Prelude.{◌≡◌, ℕ, ◌+◌, ◌-◌, ◌^◌, ◌≤◌, min, List, [], ◌∷◌, ◌++◌, length, take, drop, slice_set, slice_index_or, Option, Result, Ok, Err, IsErrOf, OnOk, OnErr}
use Rattle.std.specs.Option.{unwrap_or}
use Rattle.std.specs.Map.{lookup}
use Rattle.std.specs.Str.{bytes_eq}
use Rattle.crs_desk.specs.declared.turn.Turn.{Turn}
use Rattle.crs_desk.specs.declared.desk.DeskError.{DeskError}
use Rattle.crs_desk.specs.declared.desk.DeskError.TheVariants.{Failed, Memory}

-- An input that was opened: how many bytes were read of it, and the bytes not yet read.
pub record Stream : Type 0 where
  pub taken : ℕ
  pub rest : List ℕ

-- What a desk that tells its contents tells.
pub record Told : Type 0 where
  -- names with their bytes
  pub files : List (List ℕ × List ℕ)
  -- the names handed to open
  pub opened : List (List ℕ)
  -- the inputs, by number
  pub left : List Stream
  pub written : List ℕ
  pub turns : List Turn

-- the bytes of a name, or none where no file has it
abbrev pub file_of : List (List ℕ × List ℕ) → List ℕ → Option (List ℕ)
file_of files name = lookup (bytes_eq name) files

-- the input of a number
abbrev pub stream_at : List Stream → ℕ → Stream
stream_at left n = slice_index_or left n (record { taken = 0; rest = [] })

-- A count rose in a call, or stood at its last value before it.
abbrev pub Rose : ℕ → ℕ → Type 0
Rose before now = min (before + 1) (2 ^ 64 - 1) ≤ now

-- A count of faults never falls, and Failed is answered only where it rose.
pub record HasCause {T : Type 0} (before now : ℕ) (result : Result T DeskError) : Type 0 where
  pub later : before ≤ now
  pub failed : IsErrOf result Failed → Rose before now

-- the name is listed unless memory ran out
abbrev pub listed : Told → List ℕ → Result ℕ DeskError → List (List ℕ)
listed t name (Err Memory) = t.opened
listed t name (Err Failed) = t.opened ++ name ∷ []
listed t name (Ok _) = t.opened ++ name ∷ []

-- what open tells
pub record Opens (old : Told) (name : List ℕ) (result : Result ℕ DeskError) (new : Told) : Type 0 where
  pub files : new.files ≡ old.files
  pub opened : new.opened ≡ listed old name result
  pub ok : OnOk result (new.left ≡ old.left ++ record { taken = 0; rest = unwrap_or (file_of old.files name) [] } ∷ [])
  pub err : OnErr result (new.left ≡ old.left)
  pub written : new.written ≡ old.written
  pub turns : new.turns ≡ old.turns

-- the turn that a read into a slice of so many bytes adds
abbrev pub turn_of : Told → ℕ → ℕ → Turn
turn_of t input room = record { input = input; taken = (stream_at t.left input).taken; written = length t.written; room = room }

abbrev pub turned : Told → ℕ → ℕ → Result ℕ DeskError → List Turn
turned t input room (Err Memory) = t.turns
turned t input room (Err Failed) = t.turns ++ turn_of t input room ∷ []
turned t input room (Ok _) = t.turns ++ turn_of t input room ∷ []

-- n bytes of an input are read
abbrev pub advanced : List Stream → ℕ → ℕ → List Stream
advanced left input n =
    let s = stream_at left input in
    slice_set left input (record { taken = s.taken + n; rest = drop n s.rest })

-- n bytes came: the next of the input, and none only where nothing was left
pub record Comes (old : Told) (input n : ℕ) (buf : List ℕ) (new : Told) : Type 0 where
  pub bytes : take n buf ≡ take n (stream_at old.left input).rest
  pub enough : n ≤ length (stream_at old.left input).rest
  pub end : n ≡ 0 → (stream_at old.left input).rest ≡ []
  pub left : new.left ≡ advanced old.left input n

abbrev pub OnBytes : Told → ℕ → Result ℕ DeskError → List ℕ → Told → Type 0
OnBytes old input (Ok n) buf new = Comes old input n buf new
OnBytes old input (Err e) buf new = new.left ≡ old.left

-- what read tells
pub record Reads (old : Told) (input : ℕ) (result : Result ℕ DeskError) (buf : List ℕ) (new : Told) : Type 0 where
  pub files : new.files ≡ old.files
  pub opened : new.opened ≡ old.opened
  pub bytes : OnBytes old input result buf new
  pub written : new.written ≡ old.written
  pub turns : new.turns ≡ turned old input (length buf) result

abbrev pub appended : List ℕ → List ℕ → Result ℕ DeskError → List ℕ
appended old bytes (Ok n) = old ++ take n bytes
appended old bytes (Err e) = old

-- what write tells
pub record Writes (old : Told) (bytes : List ℕ) (result : Result ℕ DeskError) (new : Told) : Type 0 where
  pub files : new.files ≡ old.files
  pub opened : new.opened ≡ old.opened
  pub left : new.left ≡ old.left
  pub written : new.written ≡ appended old.written bytes result
  pub turns : new.turns ≡ old.turns

-- k bytes from the front of these were written, and nothing else changed
pub record Wrote (old : Told) (bytes : List ℕ) (k : ℕ) (new : Told) : Type 0 where
  pub files : new.files ≡ old.files
  pub opened : new.opened ≡ old.opened
  pub left : new.left ≡ old.left
  pub turns : new.turns ≡ old.turns
  pub within : k ≤ length bytes
  pub written : new.written ≡ old.written ++ take k bytes

-- what write_all tells: all bytes, or after an error a front of them
abbrev pub WritesAll : {E : Type 0} → Told → List ℕ → Result (Unit {0}) E → Told → Type 0
WritesAll old bytes (Ok _) new = Wrote old bytes (length bytes) new
WritesAll old bytes (Err _) new = (k : ℕ) × Wrote old bytes k new

-- These turns are of this input, and their counts of bytes read rise strictly, from low and below high.
abbrev pub Rises : ℕ → ℕ → ℕ → List Turn → Type 0
Rises input low high [] = low ≤ high
Rises input low high (t ∷ ts) = (t.input ≡ input) × (low ≤ t.taken) × Rises input (t.taken + 1) high ts

-- the read handed over a slice of 4096 bytes, or of as many as were left to the limit
abbrev pub HasRoom : ℕ → Turn → Type 0
HasRoom limit t = t.room ≡ min 4096 (limit - t.taken)

-- k bytes of an input were taken, in turns of that input alone
pub record Took (old : Told) (input k : ℕ) (more : List Turn) (new : Told) : Type 0 where
  pub files : new.files ≡ old.files
  pub opened : new.opened ≡ old.opened
  pub written : new.written ≡ old.written
  pub within : k ≤ length (stream_at old.left input).rest
  pub left : new.left ≡ advanced old.left input k
  pub turns : new.turns ≡ old.turns ++ more
