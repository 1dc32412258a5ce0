-- The log of the records that are left, record by record.
use Rattle.std.proofs.Common.{◌≡◌, ◌≢◌, ◌+◌, ◌==◌, ◌⊎◌, inl, inr, ℕ, true, false, List, [], ◌∷◌, ◌++◌, length, Option, Some, refl, ap, ◌∙◌, append_assoc, append-nil, ne_eqb, eq-eqb}
use Rattle.std.specs.Prelude.{Result, Ok, Err}
use Rattle.csv.specs.declared.reader.Reader.{Reader}
use Rattle.crs_import.specs.declared.refusals.RowWord.{RowWord}
use Rattle.crs_import.specs.declared.refusals.ImportRefused.{ImportRefused}
use Rattle.crs_import.specs.declared.refusals.ImportRefused.TheVariants.{Csv, Row, Memory}
use Rattle.crs_import.specs.Records.{Line, line_of, line_text}
use Rattle.crs_import.specs.TableReading.{rows_left, Found, Differs}
use Rattle.crs_import.specs.TableSteps.{HasPushed}
use Rattle.crs_import.specs.Tables.{fields_at, log_of, onto}

onto_onto : (a b : List ℕ) (log : Result (List ℕ) ImportRefused) → onto a (onto b log) ≡ onto (a ++ b) log
onto_onto a b (Ok log) = rw append_assoc refl
onto_onto a b (Err e) = refl

-- no record is left
pub at_end : (row : ℕ) (rows : List (List (List ℕ))) (out after : List ℕ) → rows ≡ [] → after ≡ out → onto out (log_of row rows) ≡ Ok after
unfolding log_of
at_end row rows out after e same = rw (e, append-nil, same) refl

line_at : (row : ℕ) (fields : List (List ℕ)) (rest : List (List (List ℕ))) (line : Line) → length fields ≡ 6 → line_of (fields_at fields) ≡ Ok line
    → log_of row (fields ∷ rest) ≡ onto (line_text line) (log_of (row + 1) rest)
unfolding log_of
line_at row fields rest line six told = let t : (length fields == 6) ≡ true = eq-eqb (length fields) 6 six in rw (t, told) refl

fault_at : (row : ℕ) (fields : List (List ℕ)) (rest : List (List (List ℕ))) (word : RowWord) → length fields ≡ 6 → line_of (fields_at fields) ≡ Err word
    → log_of row (fields ∷ rest) ≡ Err (Row row word)
unfolding log_of
fault_at row fields rest word six told = let t : (length fields == 6) ≡ true = eq-eqb (length fields) 6 six in rw (t, told) refl

length_at : (row : ℕ) (fields : List (List ℕ)) (rest : List (List (List ℕ))) → length fields ≢ 6 → log_of row (fields ∷ rest) ≡ Err (Csv row)
unfolding log_of
length_at row fields rest other = let t : (length fields == 6) ≡ false = ne_eqb (length fields) 6 other in rw t refl

module _ {R : Type 0} (rem : R → Option (List ℕ)) (old new : Reader R) where
  are_six : (fields : List (List ℕ)) → Found rem old new fields → old.expected ≡ Some 6 → length fields ≡ 6
  are_six fields f six = rw six at f.same

  -- the line of a record was written
  pub pushed : (row : ℕ) (fields : List (List ℕ)) (line : Line) (before after : List ℕ) → Found rem old new fields → old.expected ≡ Some 6 → line_of (fields_at fields) ≡ Ok line
      → after ≡ before ++ line_text line → HasPushed rem old new row before after
  pushed row fields line before after f six told wrote =
      let size = are_six fields f six in
      let step = line_at row fields (rows_left rem new) line size told in
      record {
        reading = f.reading;
        six = f.size ∙ ap (λ (n : ℕ). Some n) size;
        log = rw (f.rows, step, wrote) (onto_onto before (line_text line) (log_of (row + 1) (rows_left rem new)));
      }

  -- a record has a fault
  pub faulty : (row : ℕ) (fields : List (List ℕ)) (word : RowWord) → Found rem old new fields → old.expected ≡ Some 6 → line_of (fields_at fields) ≡ Err word
      → log_of row (rows_left rem old) ≡ Err (Row row word)
  faulty row fields word f six told = rw f.rows (fault_at row fields (rows_left rem new) word (are_six fields f six) told)

-- a record has another length, where memory isn't wanting
pub refused : {R : Type 0} (rem : R → Option (List ℕ)) (old : Reader R) (row : ℕ) (e : ImportRefused) → old.expected ≡ Some 6 → (e ≡ Memory) ⊎ ((e ≡ Csv row) × Differs rem old)
    → (e ≡ Memory) ⊎ (log_of row (rows_left rem old) ≡ Err e)
refused rem old row e six (inl m) = inl m
refused rem old row e six (inr d) = inr (rw (d.1.rows, d.0) (length_at row d.1.first d.1.rest (rw six at d.1.differs)))
