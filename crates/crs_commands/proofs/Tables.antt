-- Tables that are written as logs, or refused.
use Rattle.std.proofs.Common.{◌≡◌, ◌⊎◌, ◌∙◌, sym, refl, inl, inr, ℕ, arith, ◌^◌, List, codes, Err}
use Rattle.std.specs.Fmt.{digits}
use Rattle.crs_import.specs.TableRefusals.{refusal_line}
use Rattle.crs_import.specs.Tables.{table_log}
use Rattle.crs_import.specs.declared.refusals.ImportRefused.{ImportRefused}
use Rattle.crs_import.specs.declared.refusals.ImportRefused.TheVariants.{Csv, Row, Memory}
use Rattle.crs_import.specs.declared.refusals.RowWord.TheVariants.{Size}
use Rattle.crs_import.proofs.Sizes.{too_long}
use Rattle.crs_desk.specs.Desk.{Told}
use Rattle.crs_desk.specs.declared.turn.Turn.{Turn}
use Rattle.crs_outcomes.specs.declared.status.Status.{Status}
use Rattle.crs_outcomes.specs.declared.status.Status.TheVariants.{Rejected}
use Rattle.crs_commands.specs.Imports.{IsTableLog, IsTableLine, Imports, RefusesTable}
use Rattle.crs_outcomes.specs.Inputs.{bytes_of}
use Rattle.crs_outcomes.specs.Loads.{AreTaken, IsTooLong, Loaded}
use Rattle.crs_outcomes.specs.Writing.{Says}
use Rattle.crs_outcomes.proofs.Loads.{ends_said, ends_wanting}

size_line : refusal_line (Row 0 Size) ≡ codes "table record 0 size\n"
unfolding digits
size_line = refl

-- a table of more than 2^26 bytes is refused by its size
pub long_is_refused : (table text : List ℕ) → IsTooLong (2 ^ 26) (codes "table record 0 size\n") table text → IsTableLine table text
long_is_refused table text h = (
  Row 0 Size,
  too_long table h.0,
  h.1 ∙ sym size_line,
)

module _ (base now : ℕ) (old mid new : Told) (name : List ℕ) (k : ℕ) (more : List Turn) (l : Loaded base now (2 ^ 26) old name 1 1 k more mid) (t : AreTaken (2 ^ 26) (bytes_of old name) k) where
  -- a record was refused, and its line is written
  ends_line : (e : ImportRefused) (status : Status) → table_log (bytes_of old name) ≡ Err e → Says Rejected mid (refusal_line e) status new → Imports base now old name status new
  ends_line e status h s =
      ends_said base now (2 ^ 26) (IsTableLog (bytes_of old name)) (IsTableLine (bytes_of old name)) old name mid new k more (refusal_line e) status l t (e, h, refl) s

  -- a table was refused, or memory is wanting
  pub ends_table : (e : ImportRefused) (status : Status) → (e ≡ Memory) ⊎ (table_log (bytes_of old name) ≡ Err e) → RefusesTable mid e status new → Imports base now old name status new
  ends_table Memory status h r =
      rw (r.0, r.1) (ends_wanting base now (2 ^ 26) (IsTableLog (bytes_of old name)) (IsTableLine (bytes_of old name)) old name 1 1 k more mid l (omega arith))
  ends_table (Csv row) status (inl e) r = absurd (cc)
  ends_table (Csv row) status (inr h) r = ends_line (Csv row) status h r
  ends_table (Row row word) status (inl e) r = absurd (cc)
  ends_table (Row row word) status (inr h) r = ends_line (Row row word) status h r
