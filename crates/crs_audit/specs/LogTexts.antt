-- What the table of symbols gains while a log is read.
use Rattle.std.specs.Prelude.{◌≡◌, ℕ, List, ◌++◌}
use Rattle.std.specs.List.{AllByRecursion}
use Rattle.crs_base.specs.Lines.{Line, lines_of, bytes_of}
use Rattle.crs_base.specs.Symbols.{Table}
use Rattle.crs_base.specs.Words.{IsIn}
use Rattle.crs_log.specs.Items.{Event, Happens, IsItem}
use Rattle.crs_log.specs.Known.{texts_of}

-- an argument or a value of the event that the line is
abbrev pub IsTextIn : List ℕ → List ℕ → Type 0
IsTextIn line text = (e : Event) × IsItem line (Happens e) × IsIn text (texts_of e)

-- of an event among these lines
abbrev pub IsTextAmong : List Line → List ℕ → Type 0
IsTextAmong ls text = (l : Line) × IsIn l ls × IsTextIn (bytes_of l) text

-- Behind the texts that it held the table has further ones, and of each of them this holds. It may hold as many as before.
pub record Gains (Among : List ℕ → Type 0) (old new : Table) : Type 0 where
  pub more : List (List ℕ)
  pub grown : new.texts ≡ old.texts ++ more
  pub all : AllByRecursion Among more
  pub limit : new.limit ≡ old.limit

-- behind the texts that it held the table has only arguments and values of the log's events
abbrev pub GainsOnlyOf : List ℕ → Table → Table → Type 0
GainsOnlyOf log old new = Gains (IsTextAmong (lines_of log)) old new
