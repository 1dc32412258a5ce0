-- What a log says of the declared names.
use Rattle.std.specs.Prelude.{ℕ, ◌+◌, ◌==◌, ◌&&◌, Bool, true, cond, List, [], ◌∷◌, ◌++◌, length, Option, Some, None, is_some, bytes_eq, not}
use Rattle.std.specs.List.{list_any}
use Rattle.crs_base.specs.Symbols.{is_known}
use Rattle.crs_base.specs.Entry.{Entry, canonical}
use Rattle.crs_model.specs.Models.{Kind, Message, Attribute, Name}
use Rattle.crs_log.specs.Items.{Event, Change}

abbrev pub is_among : List ℕ → Option (List (List ℕ)) → Bool
is_among text None = true
is_among text (Some values) = list_any (bytes_eq text) values

-- the new value is one that the attribute may have
abbrev pub is_of_kind : Option Change → Kind (List ℕ) → Bool
is_of_kind change Message = true
is_of_kind None (Attribute values) = true
is_of_kind (Some c) (Attribute values) = is_among c.1 values

-- a change stands where the kind wants one, and none where it doesn't
abbrev pub change_stands : Option Change → Kind (List ℕ) → Bool
change_stands change Message = not (is_some change)
change_stands change (Attribute values) = is_some change

-- the arguments and the change agree with the declaration
abbrev pub agrees : Name (List ℕ) → Event → Bool
agrees n e = (length e.args == n.arity) && change_stands e.change n.kind

-- what is known of an event: its name isn't declared, or is the one at a place, or its arity or its value is at fault
pub data Verdict : Type 0 where
  Other : Verdict
  Named : ℕ → Verdict
  BadArity : Verdict
  BadValue : Verdict

abbrev pub judged : ℕ → Name (List ℕ) → Event → Verdict
judged place n e = cond (agrees n e) (cond (is_of_kind e.change n.kind) (Named place) BadValue) BadArity

-- by the first name that is the event's, where `place` names stand before these
abbrev pub known_from : ℕ → List (Name (List ℕ)) → Event → Verdict
known_from place [] e = Other
known_from place (n ∷ ns) e = cond (bytes_eq e.name n.name) (judged place n e) (known_from (place + 1) ns e)

abbrev pub known_of : List (Name (List ℕ)) → Event → Verdict
known_of names e = known_from 0 names e

-- The texts that an entry adds.
abbrev pub change_texts : Option Change → List (List ℕ)
change_texts None = []
change_texts (Some c) = c.0 ∷ c.1 ∷ []

-- the texts of arguments, old and new value
abbrev pub texts_of : Event → List (List ℕ)
texts_of e = e.args ++ change_texts e.change

-- those that aren't there, each once
abbrev pub new_texts : List (List ℕ) → List (List ℕ) → List (List ℕ)
new_texts texts [] = []
new_texts texts (t ∷ ts) = cond (is_known texts t) (new_texts texts ts) (t ∷ new_texts (texts ++ t ∷ []) ts)

-- 1 for a text that isn't there
abbrev pub one_if_new : List (List ℕ) → List ℕ → ℕ
one_if_new texts text = cond (is_known texts text) 0 1

-- the entry of an event
abbrev pub entry_of_event : ℕ → Event → Entry (List ℕ)
entry_of_event arrival e = record { arrival = arrival; date = e.date; name = e.name; args = e.args; change = e.change; text = canonical e.name e.args e.change }
