-- A run is a fold over the lines of a log.
use Rattle.std.specs.Prelude.{ℕ, ◌+◌, ◌-◌, max, Bool, true, false, nat_lt, nat_le, cond, List, [], ◌∷◌, ◌++◌, length}
use Rattle.crs_base.specs.Entry.{Entry}
use Rattle.crs_base.specs.Symbols.{with_texts}
use Rattle.crs_model.specs.Models.{Name}
use Rattle.crs_model.specs.Order.{arrived, dated_before, in_key_order}
use Rattle.crs_model.specs.declared.recognition.Mark.{Mark}
use Rattle.crs_model.specs.declared.recognition.Mark.TheVariants.{Clock as AtClock, Finish as AtEnd}
use Rattle.crs_log.specs.Items.{Item, Delay, Clock, Finish, Happens, Event}
use Rattle.crs_log.specs.ItemOf.{What, Empty, Is, Faulty, what_of}
use Rattle.crs_log.specs.Reading.{Given, Plain, Long}
use Rattle.crs_log.specs.Known.{Verdict, Other, Named, BadArity, BadValue, known_of, entry_of_event, texts_of, new_texts}

-- the declared names, and how many symbols and entries there may be
pub record Setting : Type 0 where
  pub names : List (Name (List ℕ))
  pub symbols : ℕ
  pub entries : ℕ

-- `marked` is how many entries were accepted by the last mark
pub record State : Type 0 where
  pub texts : List (List ℕ)
  pub delay : ℕ
  pub last : ℕ
  pub horizon : ℕ
  pub accepted : List (Entry (List ℕ))
  pub marked : ℕ
  pub ended : Bool

-- the known texts are those of the models
abbrev pub at_start : List (List ℕ) → State
at_start texts = record { texts = texts; delay = 0; last = 0; horizon = 0; accepted = []; marked = 0; ended = false }

pub data Fault : Type 0 where
  TooLong : Fault
  Form : Fault
  Order : Fault
  Back : ℕ → ℕ → Fault
  Late : ℕ → ℕ → Fault
  Arity : Fault
  Value : Fault
  Full : ℕ → Fault
  Values : ℕ → Fault

-- what becomes of a line
pub data Outcome : Type 0 where
  Passed : Outcome
  Refused : Fault → Outcome
  Accepted : (Entry (List ℕ)) → Outcome
  Marked : Mark → Outcome

-- above every window's end
abbrev pub end_date : ℕ
end_date = 4398046511104

-- the horizon after `clock t`, where it was h before: it never falls
abbrev pub horizon_at : ℕ → ℕ → ℕ → ℕ
horizon_at delay h t = max h (t - delay)

abbrev pub with_entry : State → (Entry (List ℕ)) → Event → State
with_entry s entry e = record s { texts = with_texts s.texts (texts_of e); accepted = s.accepted ++ entry ∷ [] }

-- an event whose name is declared, with the right arguments and value
abbrev pub after_named : Setting → State → Event → State × Outcome
after_named c s e =
    cond (nat_lt (length s.accepted) c.entries)
    (cond (nat_le (length s.texts + length (new_texts s.texts (texts_of e))) c.symbols)
    (with_entry s (entry_of_event (length s.accepted) e) e, Accepted (entry_of_event (length s.accepted) e))
    (s, Refused (Values c.symbols)))
    (s, Refused (Full c.entries))

-- an event that isn't late
abbrev pub after_verdict : Setting → State → Event → Verdict → State × Outcome
after_verdict c s e Other = (s, Passed)
after_verdict c s e BadArity = (s, Refused Arity)
after_verdict c s e BadValue = (s, Refused Value)
after_verdict c s e (Named place) = after_named c s e

-- an item that doesn't stand behind the end
abbrev pub after_ordered : Setting → State → Item → State × Outcome
after_ordered c s (Delay d) = (record s { delay = d }, Passed)
after_ordered c s (Clock t) = cond (nat_lt t s.last) (s, Refused (Back t s.last)) (record s { last = t; horizon = horizon_at s.delay s.horizon t; marked = length s.accepted }, Marked (AtClock t))
after_ordered c s Finish = (record s { last = end_date; horizon = end_date; ended = true; marked = length s.accepted }, Marked AtEnd)
after_ordered c s (Happens e) = cond (nat_lt e.date s.horizon) (s, Refused (Late e.date s.horizon)) (after_verdict c s e (known_of c.names e))

abbrev pub after_item : Setting → State → Item → State × Outcome
after_item c s item = cond s.ended (s, Refused Order) (after_ordered c s item)

-- what a line is, that isn't long
abbrev pub after_what : Setting → State → What → State × Outcome
after_what c s Empty = (s, Passed)
after_what c s (Is item) = after_item c s item
after_what c s Faulty = (s, Refused Form)

-- the first fault that applies is the line's
abbrev pub after_line : Setting → State → Given → State × Outcome
after_line c s (Long number) = (s, Refused TooLong)
after_line c s (Plain number bytes) = after_what c s (what_of bytes)

-- the state after these lines, and what became of each
abbrev pub after_lines : Setting → State → List Given → State
after_lines c s [] = s
after_lines c s (g ∷ gs) = after_lines c (after_line c s g).0 gs

abbrev pub outcomes : Setting → State → List Given → List Outcome
outcomes c s [] = []
outcomes c s (g ∷ gs) = (after_line c s g).1 ∷ outcomes c (after_line c s g).0 gs

-- the accepted entries dated before the horizon, in key order
abbrev pub settled : State → List (Entry (List ℕ))
settled s = dated_before s.horizon s.accepted

-- the entries that were accepted by the last mark, in key order
abbrev pub marked_entries : State → List (Entry (List ℕ))
marked_entries s = in_key_order (arrived s.marked s.accepted)
