-- What the program's items are.
use Rattle.std.specs.Prelude.{◌≡◌, ◌<◌, ◌≤◌, ◌+◌, ℕ, List, map, Option, option_map, length, Some, None, true, false}
use Rattle.crs_log.specs.declared.items.Item.{Item as CodeItem}
use Rattle.crs_log.specs.declared.items.Item.TheVariants.{Blank as CodeBlank, Delay as CodeDelay, Clock as CodeClock, Finish as CodeFinish, Event as CodeEvent}
use Rattle.crs_log.specs.declared.items.Raw.{Raw}
use Rattle.crs_log.specs.declared.items.Span.{Span}
use Rattle.crs_log.specs.declared.items.ItemRefused.{ItemRefused}
use Rattle.crs_log.specs.declared.items.ItemRefused.TheVariants.{Form, Memory}
use Rattle.crs_log.specs.Items.{Item, Delay, Clock, Finish, Happens, Event, Change, IsItem}
use Rattle.crs_log.specs.ItemOf.{What, Empty, Is, Faulty, what_of, Parted}
use Rattle.crs_base.specs.Lines.{is_passed_over}
use Rattle.crs_base.specs.SeenTokens.{word_at, tokens_seen}
use Rattle.crs_base.specs.declared.tokens.Token.{Token as CodeToken}

abbrev pub text_of : List ℕ → Span → List ℕ
text_of line s = word_at line s.start s.len

abbrev pub pair_in : List ℕ → Span × Span → Change
pair_in line c = (text_of line c.0, text_of line c.1)

abbrev pub change_in : List ℕ → Option (Span × Span) → Option Change
change_in line change = option_map (pair_in line) change

abbrev pub event_seen : List ℕ → Raw → Event
event_seen line raw = record { date = raw.date; name = text_of line raw.name; args = map (text_of line) raw.args; change = change_in line raw.change }

abbrev pub what_seen : List ℕ → CodeItem → What
what_seen line CodeBlank = Empty
what_seen line (CodeDelay n) = Is (Delay n)
what_seen line (CodeClock n) = Is (Clock n)
what_seen line CodeFinish = Is Finish
what_seen line (CodeEvent raw) = Is (Happens (event_seen line raw))

-- the line is the item that was read
abbrev pub IsRead : List ℕ → CodeItem → Type 0
IsRead line CodeBlank = is_passed_over line ≡ true
IsRead line (CodeDelay n) = (is_passed_over line ≡ false) × IsItem line (Delay n)
IsRead line (CodeClock n) = (is_passed_over line ≡ false) × IsItem line (Clock n)
IsRead line CodeFinish = (is_passed_over line ≡ false) × IsItem line Finish
IsRead line (CodeEvent raw) = (is_passed_over line ≡ false) × IsItem line (Happens (event_seen line raw))

-- a line that is neither blank nor a comment, and is no item
abbrev pub IsFaulty : List ℕ → Type 0
IsFaulty line = (is_passed_over line ≡ false) × ((item : Item) → IsItem line item → ⊥)

-- only a fault of form has a cause
abbrev pub IsFormOrMemory : List ℕ → ItemRefused → Type 0
IsFormOrMemory line Form = IsFaulty line
IsFormOrMemory line Memory = Unit {0}

-- the same, as what the line is
abbrev pub Refuses : List ℕ → ItemRefused → Type 0
Refuses line Form = what_of line ≡ Faulty
Refuses line Memory = Unit {0}

-- the span lies in the line
abbrev pub IsWithin : List ℕ → Span → Type 0
IsWithin line s = s.start + s.len ≤ length line

-- numbers below 2^40
abbrev pub IsInRange : CodeItem → Type 0
IsInRange CodeBlank = Unit {0}
IsInRange (CodeDelay n) = n < 1099511627776
IsInRange (CodeClock n) = n < 1099511627776
IsInRange CodeFinish = Unit {0}
IsInRange (CodeEvent raw) = raw.date < 1099511627776

abbrev pub parted_seen : List ℕ → List Span → List CodeToken → Parted
parted_seen line args behind = record { args = map (text_of line) args; behind = tokens_seen line behind }

abbrev pub happens_seen : List ℕ → Raw → Item
happens_seen line raw = Happens (event_seen line raw)

-- an item that was read, or none
abbrev pub what_from : List ℕ → Option CodeItem → What
what_from line None = Faulty
what_from line (Some item) = what_seen line item
