-- What becomes of a line, and of its item that stands in order.
use Rattle.std.specs.Prelude.{Bool, true, false}
use Rattle.crs_base.specs.Lines.{Line, line_limit}
use Rattle.crs_log.specs.ItemOf.{What, Empty, Is, Faulty}
use Rattle.crs_log.specs.Reading.{given_line}
use Rattle.crs_log.specs.Run.{Setting, State, Outcome, Passed, Refused, Form, after_line, after_ordered}

abbrev pub is_blank_what : What → Bool
is_blank_what Empty = true
is_blank_what (Is item) = false
is_blank_what Faulty = false

-- an item that doesn't stand behind the end
abbrev pub ordered_what : Setting → State → What → State × Outcome
ordered_what c s Empty = (s, Passed)
ordered_what c s (Is item) = after_ordered c s item
ordered_what c s Faulty = (s, Refused Form)

-- what becomes of a line, which its number doesn't change
abbrev pub after_raw : Setting → State → Line → State × Outcome
after_raw c s l = after_line c s (given_line line_limit 1 l)
