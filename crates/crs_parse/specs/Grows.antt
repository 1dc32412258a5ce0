-- How a table of symbols grows while a text is read.
use Rattle.std.specs.Prelude.{◌≡◌, ℕ, List, [], ◌++◌, Option, Some, None}
use Rattle.std.specs.List.{AllByRecursion, flat_map}
use Rattle.crs_base.specs.Lines.{Line, bytes_of}
use Rattle.crs_base.specs.Words.{IsIn}
use Rattle.crs_grammar.specs.Statements.{Statement}
use Rattle.crs_parse.specs.Faults.{symbols_of}
use Rattle.crs_parse.specs.ModelSteps.{inside_line, outside_line}

abbrev pub read_symbols : Option Statement → List (List ℕ)
read_symbols None = []
read_symbols (Some s) = symbols_of s

-- the symbols of what a line says, inside a chronicle or outside
abbrev pub line_symbols : Line → List (List ℕ)
line_symbols l = read_symbols (inside_line (bytes_of l)) ++ read_symbols (outside_line (bytes_of l))

abbrev pub lines_symbols : List Line → List (List ℕ)
lines_symbols ls = flat_map line_symbols ls

-- the old texts, and behind them further ones, each of which is among these
pub record Grows (among old new : List (List ℕ)) : Type 0 where
  pub more : List (List ℕ)
  pub is : new ≡ old ++ more
  pub all : AllByRecursion (λ t. IsIn t among) more

-- each symbol of these lines is one of those lines
pub record AreAmong (ls more : List Line) : Type 0 where
  pub each : (t : List ℕ) → IsIn t (lines_symbols ls) → IsIn t (lines_symbols more)
