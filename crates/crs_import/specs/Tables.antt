-- The log of a table, over the records that the crate `csv` defines for its bytes.
use Rattle.std.specs.Prelude.{ℕ, ◌+◌, ◌==◌, nat_le, ◌&&◌, Bool, if◌then◌else◌, List, [], ◌∷◌, ◌++◌, length, get_or, Result, Ok, Err, codes, bytes_eq}
use Rattle.csv.specs.Reading.{records, strip_bom, default_config}
use Rattle.crs_import.specs.Records.{Fields, Line, line_of, line_text}
use Rattle.crs_import.specs.declared.refusals.RowWord.{RowWord}
use Rattle.crs_import.specs.declared.refusals.RowWord.TheVariants.{Header, Size}
use Rattle.crs_import.specs.declared.refusals.ImportRefused.{ImportRefused}
use Rattle.crs_import.specs.declared.refusals.ImportRefused.TheVariants.{Csv, Row}

abbrev pub fields_at : List (List ℕ) → Fields
fields_at r = record {
  what = get_or r 0 [];
  date = get_or r 1 [];
  name = get_or r 2 [];
  args = get_or r 3 [];
  old = get_or r 4 [];
  new = get_or r 5 [];
}

-- the names of the fields
abbrev pub are_titles : Fields → Bool
are_titles f =
    bytes_eq f.what (codes "what") && bytes_eq f.date (codes "date") && bytes_eq f.name (codes "name")
    && bytes_eq f.args (codes "args") && bytes_eq f.old (codes "old") && bytes_eq f.new (codes "new")

abbrev pub is_header : List (List ℕ) → Bool
is_header r = (length r == 6) && are_titles (fields_at r)

-- bytes in front of a log
abbrev pub onto : List ℕ → Result (List ℕ) ImportRefused → Result (List ℕ) ImportRefused
onto text (Ok log) = Ok (text ++ log)
onto text (Err e) = Err e

-- a record's line in front of the log of those behind it; a fault of the record comes first
abbrev pub in_front : ℕ → Result Line RowWord → Result (List ℕ) ImportRefused → Result (List ℕ) ImportRefused
in_front row (Ok line) log = onto (line_text line) log
in_front row (Err word) log = Err (Row row word)

-- the log of records, of which the first has that number, or the first fault
unfoldable pub log_of : ℕ → List (List (List ℕ)) → Result (List ℕ) ImportRefused
log_of row [] = Ok []
log_of row (r ∷ rs) = if length r == 6 then in_front row (line_of (fields_at r)) (log_of (row + 1) rs) else Err (Csv row)

-- the first record has the six names, and the lines stand behind it
abbrev pub headed : List (List (List ℕ)) → Result (List ℕ) ImportRefused
headed [] = Err (Row 1 Header)
headed (r ∷ rs) = if is_header r then log_of 2 rs else Err (Row 1 Header)

-- the log of a table of at most 2^26 bytes, or what is wrong with the first faulty record
abbrev pub table_log : List ℕ → Result (List ℕ) ImportRefused
table_log table =
    if nat_le (length table) 67108864 then headed (records default_config (strip_bom table)) else Err (Row 0 Size)
