-- The canonical text of models.
use Rattle.std.specs.Prelude.{ℕ, zero, suc, ℤ, pos, negsuc, neg_ℤ, List, [], ◌∷◌, ◌++◌, map, Option, Some, None, option_map}
use Rattle.std.specs.List.{flat_map}
use Rattle.crs_base.specs.Symbols.{text_at}
use Rattle.crs_stn.specs.declared.bound.Bound.{Bound}
use Rattle.crs_model.specs.Models.{Term, Value, Var, Any, Pattern, EventDef, Anchor, Body, NoEvent, Occurs, Hold, Window, Emit, Chronicle, Kind, Message, Attribute, Name, Models}
use Rattle.crs_grammar.specs.Statements as w
use Rattle.crs_grammar.specs.Canon.{statements_text}

module _ (variables : List (List ℕ)) where
  abbrev pub term_from : Term (List ℕ) → w.Term
  term_from (Value s) = w.Value s
  term_from (Var v) = w.Variable (text_at variables v)
  term_from Any = w.Any

  abbrev pub change_from : Option (Term (List ℕ) × Term (List ℕ)) → Option (w.Term × w.Term)
  change_from c = option_map (λ c. (term_from c.0, term_from c.1)) c

  abbrev pub pattern_from : Pattern (List ℕ) → w.Pattern
  pattern_from p = record { name = p.name; terms = map term_from p.terms; change = change_from p.change }

  abbrev pub body_from : Body (List ℕ) → w.Body
  body_from (NoEvent p) = w.NoEvent (pattern_from p)
  body_from (Occurs least most p) = w.Occurs least most (pattern_from p)
  body_from (Hold name terms value) = w.Hold name (map term_from terms) (term_from value)

-- level 0 isn't written
abbrev pub level_from : ℕ → Option ℕ
level_from zero = None
level_from (suc n) = Some (suc n)

abbrev pub event_from : List (List ℕ) → EventDef (List ℕ) → w.Event
event_from variables e = record { pattern = pattern_from variables e.pattern; point = e.point; level = level_from e.level }

-- nor is offset 0
abbrev pub shift_from : ℤ → w.Shift
shift_from (pos zero) = w.Here
shift_from (pos (suc n)) = w.Later (suc n)
shift_from (negsuc n) = w.Earlier (suc n)

-- point i is event i's point, and the free points follow
abbrev pub points_in : Chronicle (List ℕ) → List (List ℕ)
points_in c = map (λ e. e.point) c.events ++ c.free

abbrev pub anchor_from : List (List ℕ) → Anchor → w.Anchor
anchor_from points a = record { point = text_at points a.event; shift = shift_from a.offset }

abbrev pub window_from : List (List ℕ) → List (List ℕ) → Window (List ℕ) → w.Window
window_from variables points v = record { body = body_from variables v.body; from = anchor_from points v.from; to = anchor_from points v.to }

abbrev pub emit_from : List (List ℕ) → List (List ℕ) → Emit (List ℕ) → w.Emission
emit_from variables points e = record { pattern = pattern_from variables e.pattern; point = text_at points e.event }

-- the first of two bounds gives the greatest distance, and the second the least
abbrev pub distance_from : List (List ℕ) → Bound → Bound → w.Distance
distance_from points high low = record { to = text_at points high.to; from = text_at points high.from; low = option_map neg_ℤ low.most; high = high.most }

abbrev pub distances_from : List (List ℕ) → List Bound → List w.Distance
distances_from points [] = []
distances_from points (b ∷ []) = []
distances_from points (high ∷ low ∷ bs) = distance_from points high low ∷ distances_from points bs

-- events, free points, bounds, sets, differences, windows and emits
abbrev pub chronicle_from : Chronicle (List ℕ) → List w.Statement
chronicle_from c =
    w.Begin (record { prompt = c.prompt; name = c.name }) ∷ map (λ e. w.Happens (event_from c.variables e)) c.events
    ++ map w.Point c.free
    ++ map w.Between (distances_from (points_in c) c.bounds)
    ++ map (λ s. w.Among (text_at c.variables s.variable) s.values) c.sets
    ++ map (λ d. w.Differ (text_at c.variables d.0) (text_at c.variables d.1)) c.differs
    ++ map (λ v. w.Over (window_from c.variables (points_in c) v)) c.windows
    ++ map (λ e. w.Emits (emit_from c.variables (points_in c) e)) c.emits
    ++ w.Close ∷ []

abbrev pub kind_from : List ℕ → ℕ → Kind (List ℕ) → w.Statement
kind_from name arity Message = w.Message name arity
kind_from name arity (Attribute values) = w.Attribute name arity values

abbrev pub name_from : Name (List ℕ) → w.Statement
name_from n = kind_from n.name n.arity n.kind

abbrev pub derived_from : Name (List ℕ) → w.Statement
derived_from n = w.Derived n.name n.arity

-- declared names first, then derived names, then the chronicles
abbrev pub statements_from : Models (List ℕ) → List w.Statement
statements_from m = map name_from m.names ++ map derived_from m.derived ++ flat_map chronicle_from m.chronicles

abbrev pub models_text : Models (List ℕ) → List ℕ
models_text m = statements_text (statements_from m)
