-- The line of a refused table.
use Rattle.std.specs.Prelude.{ℕ, List, [], ◌∷◌, ◌++◌, codes, decimal}
use Rattle.crs_import.specs.declared.refusals.RowWord.{RowWord}
use Rattle.crs_import.specs.declared.refusals.RowWord.TheVariants.{Header, What, Date, Name, Args, Change, Extra, Size}
use Rattle.crs_import.specs.declared.refusals.ImportRefused.{ImportRefused}
use Rattle.crs_import.specs.declared.refusals.ImportRefused.TheVariants.{Csv, Row, Memory}

abbrev pub word_text : RowWord → List ℕ
word_text Header = codes "header"
word_text What = codes "what"
word_text Date = codes "date"
word_text Name = codes "name"
word_text Args = codes "args"
word_text Change = codes "change"
word_text Extra = codes "extra"
word_text Size = codes "size"

-- the record of that number, and what is wrong with it
abbrev pub record_line : ℕ → List ℕ → List ℕ
record_line row word = codes "table record " ++ decimal row ++ codes " " ++ word ++ 10 ∷ []

-- want of memory has no line
abbrev pub refusal_line : ImportRefused → List ℕ
refusal_line (Csv row) = record_line row (codes "fields")
refusal_line (Row row word) = record_line row (word_text word)
refusal_line Memory = []
