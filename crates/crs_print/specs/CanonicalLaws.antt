-- Laws about the canonical text of models.
use Rattle.std.specs.Prelude.{◌≡◌, ◌≤◌, ◌^◌, ℕ, true, false, List, [], map, length, Ok}
use Rattle.std.specs.List.{AllByRecursion}
use Rattle.crs_base.specs.Lines.{lines_of, is_long}
use Rattle.crs_base.specs.Symbols.{AreDistinct, is_known}
use Rattle.crs_model.specs.Models.{Chronicle, Models}
use Rattle.crs_parse.specs.Meant.{models_read}
use Rattle.crs_print.specs.CanonicalText.{models_text}

-- a text of at most 2 ^ 20 bytes, of which no line has more than 4096
pub record IsReadable (text : List ℕ) : Type 0 where
  pub size : length text ≤ 2 ^ 20
  pub lines : AllByRecursion (λ l. is_long l ≡ false) (lines_of text)

module _ {S : Type 0} where
  -- a chronicle apart from the line that closes it
  abbrev pub without_line : Chronicle S → Chronicle S
  without_line c = record c { line = 0 }

  -- models apart from the lines that close their chronicles
  abbrev pub without_lines : Models S → Models S
  without_lines m = record m { chronicles = map without_line m.chronicles }

-- a table whose texts are distinct, and all among these
pub record IsTableWithin (texts : List (List ℕ)) (table : List (List ℕ)) : Type 0 where
  pub distinct : AreDistinct table
  pub within : AllByRecursion (λ t. is_known texts t ≡ true) table

-- The canonical text of the models of an accepted text is accepted in its turn, where it is readable, and it means the same models
-- apart from closing lines. Its table of symbols may begin with any of the texts that the first one holds in the end.
abbrev pub CanonicalModelsAreRead : Type 0
CanonicalModelsAreRead =
    (limit : ℕ) (was texts : List (List ℕ)) (text : List ℕ) (m : Models (List ℕ)) → length was ≤ limit → models_read limit was text ≡ Ok (m, texts)
    → IsReadable (models_text m)
    → (table : List (List ℕ)) → IsTableWithin texts table
    → (n : Models (List ℕ)) × (more : List (List ℕ)) × (models_read limit table (models_text m) ≡ Ok (n, more)) × (without_lines n ≡ without_lines m)

-- So it may begin with the texts that the first one began with, with all that the first one holds in the end, or with none.
abbrev pub TablesAreWithin : Type 0
TablesAreWithin =
    (limit : ℕ) (was texts : List (List ℕ)) (text : List ℕ) (m : Models (List ℕ)) → AreDistinct was → models_read limit was text ≡ Ok (m, texts)
    → IsTableWithin texts was × IsTableWithin texts texts × IsTableWithin texts []

-- Models that are the same apart from closing lines have one canonical text.
abbrev pub LinesAreNotWritten : Type 0
LinesAreNotWritten = (n m : Models (List ℕ)) → without_lines n ≡ without_lines m → models_text n ≡ models_text m
