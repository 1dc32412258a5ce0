-- What the command that writes a table as a log does to a desk that tells its contents.
use Rattle.std.specs.Prelude.{◌≡◌, ◌⊎◌, ◌^◌, ℕ, List, Ok, Err}
use Rattle.crs_desk.specs.Desk.{Told}
use Rattle.crs_import.specs.TableRefusals.{refusal_line}
use Rattle.crs_import.specs.Tables.{table_log}
use Rattle.crs_import.specs.declared.refusals.ImportRefused.{ImportRefused}
use Rattle.crs_import.specs.declared.refusals.ImportRefused.TheVariants.{Csv, Row, Memory as NoMemory}
use Rattle.crs_outcomes.specs.declared.status.Status.{Status}
use Rattle.crs_outcomes.specs.declared.status.Status.TheVariants.{Done, Rejected, Memory}
use Rattle.crs_outcomes.specs.Inputs.{bytes_of}
use Rattle.crs_outcomes.specs.Loads.{EndsWithInput}
use Rattle.crs_outcomes.specs.Writing.{Says}

-- the log of the table
abbrev pub IsTableLog : List ℕ → List ℕ → Type 0
IsTableLog table text = table_log table ≡ Ok text

-- the line of the table's first faulty record
abbrev pub IsTableLine : List ℕ → List ℕ → Type 0
IsTableLine table text = (e : ImportRefused) × (table_log table ≡ Err e) × (text ≡ refusal_line e)

-- a call that opened the table alone wrote its log, or refused it
abbrev pub Imports : ℕ → ℕ → Told → List ℕ → Status → Told → Type 0
Imports base now old table status new =
    EndsWithInput base now (2 ^ 26) (IsTableLog (bytes_of old table)) (IsTableLine (bytes_of old table)) old table status new

-- the line of the refused table is written so, and for want of memory nothing
abbrev pub RefusesTable : Told → ImportRefused → Status → Told → Type 0
RefusesTable old NoMemory status new = (status ≡ Memory) × (new ≡ old)
RefusesTable old (Csv row) status new = Says Rejected old (refusal_line (Csv row)) status new
RefusesTable old (Row row word) status new = Says Rejected old (refusal_line (Row row word)) status new

-- Where no fault rose, a table without fault is written and another is refused, unless memory is wanting.
pub record CompletesImport (old : Told) (table : List ℕ) (fault : Type 0) (status : Status) : Type 0 where
  pub written : (log : List ℕ) → table_log (bytes_of old table) ≡ Ok log → (fault → ⊥) → (status ≡ Done) ⊎ (status ≡ Memory)
  pub refused : (e : ImportRefused) → table_log (bytes_of old table) ≡ Err e → (fault → ⊥) → (status ≡ Rejected) ⊎ (status ≡ Memory)
