-- The models that a text means, with texts for symbols.
use Rattle.std.specs.Prelude.{ℕ, ℤ, pos, neg_ℤ, Bool, true, false, cond, List, [], ◌∷◌, ◌++◌, map, Option, Some, None, option_map, Result, Ok, Err, bytes_eq}
use Rattle.std.specs.List.{flat_map, position_or_len}
use Rattle.crs_stn.specs.declared.bound.Bound.{Bound}
use Rattle.crs_model.specs.Models.{Term, Value, Var, Any, Pattern, EventDef, VarSet, Anchor, Body, NoEvent, Occurs, Hold, Window, Emit, Chronicle, Kind, Message, Attribute, Name, Models}
use Rattle.crs_grammar.specs.Statements as w
use Rattle.crs_parse.specs.Faults as f

-- the number of a text among others
abbrev pub place_in : List (List ℕ) → List ℕ → ℕ
place_in texts text = position_or_len (bytes_eq text) texts

-- point i is event i's point, and the free points follow
abbrev pub points_of : f.Written → List (List ℕ)
points_of c = map (λ e. e.point) c.events ++ c.free

module _ (variables : List (List ℕ)) where
  abbrev pub term_of : w.Term → Term (List ℕ)
  term_of (w.Value s) = Value s
  term_of (w.Variable x) = Var (place_in variables x)
  term_of w.Any = Any

  abbrev pub change_of : Option (w.Term × w.Term) → Option (Term (List ℕ) × Term (List ℕ))
  change_of c = option_map (λ c. (term_of c.0, term_of c.1)) c

  abbrev pub pattern_of : w.Pattern → Pattern (List ℕ)
  pattern_of p = record { name = p.name; terms = map term_of p.terms; change = change_of p.change }

  abbrev pub body_of : w.Body → Body (List ℕ)
  body_of (w.NoEvent p) = NoEvent (pattern_of p)
  body_of (w.Occurs least most p) = Occurs least most (pattern_of p)
  body_of (w.Hold name terms value) = Hold name (map term_of terms) (term_of value)

abbrev pub level_of : Option ℕ → ℕ
level_of None = 0
level_of (Some n) = n

abbrev pub event_of : List (List ℕ) → w.Event → EventDef (List ℕ)
event_of variables e = record { pattern = pattern_of variables e.pattern; point = e.point; level = level_of e.level }

abbrev pub offset_of : w.Shift → ℤ
offset_of w.Here = pos 0
offset_of (w.Later n) = pos n
offset_of (w.Earlier n) = neg_ℤ (pos n)

abbrev pub anchor_of : List (List ℕ) → w.Anchor → Anchor
anchor_of points a = record { event = place_in points a.point; offset = offset_of a.shift }

abbrev pub window_of : List (List ℕ) → List (List ℕ) → w.Window → Window (List ℕ)
window_of variables points v = record { body = body_of variables v.body; from = anchor_of points v.from; to = anchor_of points v.to }

abbrev pub emit_of : List (List ℕ) → List (List ℕ) → w.Emission → Emit (List ℕ)
emit_of variables points e = record { pattern = pattern_of variables e.pattern; event = place_in points e.point }

-- `Q - P in [L, H]`: from P to Q with most H, and from Q to P with most -L
abbrev pub bounds_of : List (List ℕ) → w.Distance → List Bound
bounds_of points d = record { from = place_in points d.from; to = place_in points d.to; most = d.high } ∷ record { from = place_in points d.to; to = place_in points d.from; most = option_map neg_ℤ d.low } ∷ []

abbrev pub set_of : List (List ℕ) → List ℕ × List (List ℕ) → VarSet (List ℕ)
set_of variables s = record { variable = place_in variables s.0; values = s.1 }

abbrev pub differ_of : List (List ℕ) → List ℕ × List ℕ → ℕ × ℕ
differ_of variables d = (place_in variables d.0, place_in variables d.1)

-- a closed chronicle, with the line that closed it
abbrev pub chronicle_of : ℕ × f.Written → Chronicle (List ℕ)
chronicle_of d = record {
  name = d.1.name;
  prompt = d.1.prompt;
  line = d.0;
  events = map (event_of d.1.variables) d.1.events;
  free = d.1.free;
  bounds = flat_map (bounds_of (points_of d.1)) d.1.bounds;
  variables = d.1.variables;
  sets = map (set_of d.1.variables) d.1.sets;
  differs = map (differ_of d.1.variables) d.1.differs;
  windows = map (window_of d.1.variables (points_of d.1)) d.1.windows;
  emits = map (emit_of d.1.variables (points_of d.1)) d.1.emits;
}

abbrev pub kind_of : f.Kind → Kind (List ℕ)
kind_of f.OfMessage = Message
kind_of (f.OfAttribute values) = Attribute values
kind_of f.OfDerived = Message

abbrev pub name_of : f.Name → Name (List ℕ)
name_of n = record { name = n.name; arity = n.arity; kind = kind_of n.kind }

-- the name alone, where it is a derived one or not as wanted
abbrev pub that : Bool → f.Name → List f.Name
that derived n = cond (f.is_derived n.kind) (cond derived (n ∷ []) []) (cond derived [] (n ∷ []))

-- the derived names, or the others
abbrev pub names_that : Bool → List f.Name → List f.Name
names_that derived ns = flat_map (that derived) ns

-- what a reading without fault means
abbrev pub models_in : f.Reading → Models (List ℕ)
models_in r = record { names = map name_of (names_that false r.names); derived = map name_of (names_that true r.names); chronicles = map chronicle_of r.done }

-- the models of a reading, and the texts of the table behind it
abbrev pub read_of : Result f.Reading f.Fault → Result (Models (List ℕ) × List (List ℕ)) f.Fault
read_of (Ok r) = Ok (models_in r, r.texts)
read_of (Err fault) = Err fault

-- What a models text means where a table of symbols holds these texts and may hold `limit`: its models, and the texts that
-- the table holds behind it. Or its first fault: the number of the first faulty line, with the first word that applies there.
abbrev pub models_read : ℕ → List (List ℕ) → List ℕ → Result (Models (List ℕ) × List (List ℕ)) f.Fault
models_read limit texts text = read_of (f.reading_of texts limit text)
