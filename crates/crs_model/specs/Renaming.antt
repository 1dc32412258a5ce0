-- Models, entries and assignments with other symbols in place of theirs, as the texts of a table in place of its numbers.
use Rattle.std.specs.Prelude.{ℕ, ◌<◌, List, length, map, IfSome, option_map}
use Rattle.std.specs.List.{AllByRecursion}
use Rattle.crs_base.specs.Symbols.{text_at}
use Rattle.crs_base.specs.declared.symbols.Sym.{Sym}
use Rattle.crs_base.specs.Entry.{Entry}
use Rattle.crs_model.specs.Models.{Term, Value, Var, Any, Pattern, EventDef, VarSet, Body, NoEvent, Occurs, Hold, Window, Emit, Chronicle, Kind, Message, Attribute, Name, Models}
use Rattle.crs_model.specs.Matching.{Assignment}

-- a symbol's text
abbrev pub text_in : List (List ℕ) → Sym → List ℕ
text_in texts s = text_at texts s.0

-- each symbol has a text
abbrev pub AreKnown : List (List ℕ) → List Sym → Type 0
AreKnown texts symbols = AllByRecursion (λ s. s.0 < length texts) symbols

module _ {S T : Type 0} (f : S → T) where
  abbrev pub renamed_term : Term S → Term T
  renamed_term (Value s) = Value (f s)
  renamed_term (Var v) = Var v
  renamed_term Any = Any

  abbrev pub renamed_pattern : Pattern S → Pattern T
  renamed_pattern p = record { name = f p.name; terms = map renamed_term p.terms; change = option_map (λ c. (renamed_term c.0, renamed_term c.1)) p.change }

  abbrev pub renamed_event : EventDef S → EventDef T
  renamed_event v = record { pattern = renamed_pattern v.pattern; point = f v.point; level = v.level }

  abbrev pub renamed_set : VarSet S → VarSet T
  renamed_set s = record { variable = s.variable; values = map f s.values }

  abbrev pub renamed_body : Body S → Body T
  renamed_body (NoEvent p) = NoEvent (renamed_pattern p)
  renamed_body (Occurs least most p) = Occurs least most (renamed_pattern p)
  renamed_body (Hold name terms value) = Hold (f name) (map renamed_term terms) (renamed_term value)

  abbrev pub renamed_window : Window S → Window T
  renamed_window w = record { body = renamed_body w.body; from = w.from; to = w.to }

  abbrev pub renamed_emit : Emit S → Emit T
  renamed_emit e = record { pattern = renamed_pattern e.pattern; event = e.event }

  abbrev pub renamed_chronicle : Chronicle S → Chronicle T
  renamed_chronicle c = record {
    name = f c.name;
    prompt = c.prompt;
    line = c.line;
    events = map renamed_event c.events;
    free = map f c.free;
    bounds = c.bounds;
    variables = map f c.variables;
    sets = map renamed_set c.sets;
    differs = c.differs;
    windows = map renamed_window c.windows;
    emits = map renamed_emit c.emits;
  }

  abbrev pub renamed_kind : Kind S → Kind T
  renamed_kind Message = Message
  renamed_kind (Attribute values) = Attribute (option_map (map f) values)

  abbrev pub renamed_name : Name S → Name T
  renamed_name n = record { name = f n.name; arity = n.arity; kind = renamed_kind n.kind }

  abbrev pub renamed_models : Models S → Models T
  renamed_models m = record { names = map renamed_name m.names; derived = map renamed_name m.derived; chronicles = map renamed_chronicle m.chronicles }

  -- its canonical text is of bytes already
  abbrev pub renamed_entry : Entry S → Entry T
  renamed_entry e = record { arrival = e.arrival; date = e.date; name = f e.name; args = map f e.args; change = option_map (λ c. (f c.0, f c.1)) e.change; text = e.text }

  abbrev pub renamed_assignment : Assignment S → Assignment T
  renamed_assignment a = record { entries = map renamed_entry a.entries; values = map f a.values }

-- all whose symbols are such that P holds of them
module _ {S : Type 0} (P : S → Type 0) where
  abbrev pub IsTermOf : Term S → Type 0
  IsTermOf (Value s) = P s
  IsTermOf (Var v) = Unit {0}
  IsTermOf Any = Unit {0}

  pub record IsPatternOf (p : Pattern S) : Type 0 where
    pub name : P p.name
    pub terms : AllByRecursion IsTermOf p.terms
    pub change : IfSome p.change (λ c. IsTermOf c.0 × IsTermOf c.1)

  abbrev pub IsBodyOf : Body S → Type 0
  IsBodyOf (NoEvent p) = IsPatternOf p
  IsBodyOf (Occurs least most p) = IsPatternOf p
  IsBodyOf (Hold name terms value) = P name × AllByRecursion IsTermOf terms × IsTermOf value

  pub record IsChronicleOf (c : Chronicle S) : Type 0 where
    pub name : P c.name
    pub points : AllByRecursion (λ v. P v.point) c.events
    pub patterns : AllByRecursion (λ v. IsPatternOf v.pattern) c.events
    pub free : AllByRecursion P c.free
    pub variables : AllByRecursion P c.variables
    pub sets : AllByRecursion (λ s. AllByRecursion P s.values) c.sets
    pub windows : AllByRecursion (λ w. IsBodyOf w.body) c.windows
    pub emits : AllByRecursion (λ e. IsPatternOf e.pattern) c.emits

  abbrev pub IsKindOf : Kind S → Type 0
  IsKindOf Message = Unit {0}
  IsKindOf (Attribute values) = IfSome values (AllByRecursion P)

  pub record IsNameOf (n : Name S) : Type 0 where
    pub name : P n.name
    pub kind : IsKindOf n.kind

  pub record AreModelsOf (m : Models S) : Type 0 where
    pub names : AllByRecursion IsNameOf m.names
    pub derived : AllByRecursion IsNameOf m.derived
    pub chronicles : AllByRecursion IsChronicleOf m.chronicles

  pub record IsEntryOf (e : Entry S) : Type 0 where
    pub name : P e.name
    pub args : AllByRecursion P e.args
    pub change : IfSome e.change (λ c. P c.0 × P c.1)
