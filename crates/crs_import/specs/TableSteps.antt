-- What the steps of reading a table do to the log.
use Rattle.std.specs.Prelude.{◌≡◌, ◌+◌, ℕ, Bool, true, false, List, [], Option, Some}
use Rattle.csv.specs.declared.reader.Reader.{Reader}
use Rattle.crs_import.specs.TableReading.{IsReading, rows_left}
use Rattle.crs_import.specs.Tables.{headed, log_of, onto}

-- the first record has the names, and the lines of those behind it are the log
pub record IsHeaded {R : Type 0} (rem : R → Option (List ℕ)) (old new : Reader R) : Type 0 where
  pub reading : IsReading rem new
  pub six : new.expected ≡ Some 6
  pub log : headed (rows_left rem old) ≡ log_of 2 (rows_left rem new)

-- the line of the first record left was written
pub record HasPushed {R : Type 0} (rem : R → Option (List ℕ)) (old new : Reader R) (row : ℕ) (before after : List ℕ) : Type 0 where
  pub reading : IsReading rem new
  pub six : new.expected ≡ Some 6
  pub log : onto before (log_of row (rows_left rem old)) ≡ onto after (log_of (row + 1) (rows_left rem new))

-- or none was left
abbrev pub PushesRow : {R : Type 0} → (R → Option (List ℕ)) → Reader R → Reader R → ℕ → List ℕ → List ℕ → Bool → Type 0
PushesRow rem old new row before after true = HasPushed rem old new row before after
PushesRow rem old new row before after false = (rows_left rem old ≡ []) × (after ≡ before)
