-- The accepted marks of a log, and what recognition reads behind each.
use Rattle.std.specs.Prelude.{ℕ, ◌==◌, List, [], ◌∷◌, ◌++◌, Option, Some, None, if◌then◌else◌}
use Rattle.std.specs.Option.{option_or}
use Rattle.crs_model.specs.declared.recognition.Mark.{Mark}
use Rattle.crs_model.specs.declared.recognition.Mark.TheVariants.{Clock, Finish}
use Rattle.crs_log.specs.Reading.{Given}
use Rattle.crs_log.specs.Run.{Setting, State, Outcome, Passed, Refused, Accepted, Marked, after_line, end_date}
use Rattle.crs_log.specs.Recognitions.{View, view_of}

-- the number of a clock's mark; an end has one that no clock has
abbrev pub number_of : Mark → ℕ
number_of (Clock t) = t
number_of Finish = end_date

-- an accepted mark by its number, and what recognition reads behind it
abbrev pub Note : Type 0
Note = ℕ × View

-- the mark that a line is, which left the state s
abbrev pub note_of : State → Outcome → List Note
note_of s Passed = []
note_of s (Refused fault) = []
note_of s (Accepted entry) = []
note_of s (Marked mark) = (number_of mark, view_of s) ∷ []

-- the marks of lines that are met in the state s
abbrev pub notes_of : Setting → State → List Given → List Note
notes_of c s [] = []
notes_of c s (g ∷ gs) = note_of (after_line c s g).0 (after_line c s g).1 ++ notes_of c (after_line c s g).0 gs

-- what recognition reads behind the last of these marks that has the number
abbrev pub last_view : List Note → ℕ → Option View
last_view [] n = None
last_view (m ∷ ms) n = option_or (last_view ms n) (if m.0 == n then Some m.1 else None)
