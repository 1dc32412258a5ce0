-- What every accepted model meets.
use Rattle.std.specs.Prelude.{◌≡◌, ◌<◌, ◌≤◌, ◌≤ℤ◌, ◌+ℤ◌, ◌+◌, ◌*◌, ℕ, pos, List, ◌∷◌, ◌++◌, length, Option, Some, None, IfSome}
use Rattle.std.specs.List.{AllByRecursion}
use Rattle.crs_base.specs.Words.{IsIn}
use Rattle.crs_stn.specs.Bound.{IsWithin}
use Rattle.crs_model.specs.declared.limits.TheConstants.{TICK_LIMIT, LEVEL_LIMIT, EVENT_LIMIT, POINT_LIMIT, DISTANCE_LIMIT, VARIABLE_LIMIT, WINDOW_LIMIT, EMIT_LIMIT, NAME_LIMIT, ARITY_LIMIT, CHRONICLE_LIMIT}
use Rattle.crs_model.specs.Models.{Term, Value, Var, Any, Pattern, EventDef, Anchor, Body, NoEvent, Occurs, Hold, Window, Emit, Chronicle, Kind, Message, Attribute, Name, Models}
use Rattle.crs_model.specs.Bindings.{TermIsBelow, PatternIsBelow}
use Rattle.crs_model.specs.Hierarchy.{AreInOrder}
use Rattle.crs_model.specs.Proper.{IsNamed}

-- the anchor names one of the events, and its offset has a size of at most the limit
pub record IsProperAnchor (events : ℕ) (a : Anchor) : Type 0 where
  pub event : a.event < events
  pub not_large : a.offset ≤ℤ pos TICK_LIMIT
  pub not_small : pos 0 ≤ℤ (a.offset +ℤ pos TICK_LIMIT)

module _ {S : Type 0} where
  abbrev pub IsAttribute : Kind S → Type 0
  IsAttribute Message = ⊥
  IsAttribute (Attribute values) = Unit {0}

  -- a change stands exactly where the name is an attribute's
  abbrev pub Suits : Kind S → Option (Term S × Term S) → Type 0
  Suits Message None = Unit {0}
  Suits (Attribute values) (Some c) = Unit {0}
  Suits _ _ = ⊥

  -- a declaration of this name, with this count of terms
  pub record Declares (names : List (Name S)) (name : S) (terms : ℕ) (n : Name S) : Type 0 where
    pub among : IsIn n names
    pub same : n.name ≡ name
    pub arity : n.arity ≡ terms

  -- the pattern's name is declared, and the pattern is as declared
  abbrev pub IsDeclared : List (Name S) → Pattern S → Type 0
  IsDeclared names p = (n : Name S) × Declares names p.name (length p.terms) n × Suits n.kind p.change

  -- each name is declared with few enough terms
  abbrev pub AreShort : List (Name S) → Type 0
  AreShort names = AllByRecursion (λ n. n.arity ≤ ARITY_LIMIT) names

  -- a symbol or a variable, and not `*`
  abbrev pub IsDefinite : Term S → Type 0
  IsDefinite (Value x) = Unit {0}
  IsDefinite (Var v) = Unit {0}
  IsDefinite Any = ⊥

  -- a declaration of an attribute of this name, with this count of terms
  abbrev pub IsOfAttribute : List (Name S) → S → ℕ → Type 0
  IsOfAttribute names name terms = (d : Name S) × Declares names name terms d × IsAttribute d.kind

  -- What a window wants is of a declared name, and its variables are below n.
  -- It wants no more entries than it allows, and a `hold` has no `*`.
  abbrev pub IsProperBody : List (Name S) → ℕ → Body S → Type 0
  IsProperBody names n (NoEvent p) = IsDeclared names p × PatternIsBelow n p
  IsProperBody names n (Occurs least most p) = IsDeclared names p × PatternIsBelow n p × IfSome most (λ m. least ≤ m)
  IsProperBody names n (Hold name terms value) =
      (IsOfAttribute names name (length terms) × AllByRecursion (TermIsBelow n) (value ∷ terms) × AllByRecursion IsDefinite (value ∷ terms))

  pub record IsProperWindow (names : List (Name S)) (c : Chronicle S) (w : Window S) : Type 0 where
    pub body : IsProperBody names (length c.variables) w.body
    pub from : IsProperAnchor (length c.events) w.from
    pub to : IsProperAnchor (length c.events) w.to

  pub record IsProperEvent (names : List (Name S)) (c : Chronicle S) (e : EventDef S) : Type 0 where
    pub declared : IsDeclared names e.pattern
    pub below : PatternIsBelow (length c.variables) e.pattern
    pub level : e.level ≤ LEVEL_LIMIT

  -- It is of a declared name without a change, its variables are the chronicle's, it has no `*`, and its event is one of the chronicle's.
  pub record IsProperEmit (names : List (Name S)) (c : Chronicle S) (e : Emit S) : Type 0 where
    pub declared : IsDeclared names e.pattern
    pub plain : e.pattern.change ≡ None
    pub below : PatternIsBelow (length c.variables) e.pattern
    pub definite : AllByRecursion IsDefinite e.pattern.terms
    pub event : e.event < length c.events

  -- the counts, the numbers of points and variables, and the names of an accepted chronicle
  pub record IsProperChronicle (names : List (Name S)) (c : Chronicle S) : Type 0 where
    pub events_some : 0 < length c.events
    pub events_few : length c.events ≤ EVENT_LIMIT
    pub points_few : length c.events + length c.free ≤ POINT_LIMIT
    pub bounds_few : length c.bounds ≤ 2 * DISTANCE_LIMIT
    pub variables_few : length c.variables ≤ VARIABLE_LIMIT
    pub windows_few : length c.windows ≤ WINDOW_LIMIT
    pub emits_few : length c.emits ≤ EMIT_LIMIT
    pub within : IsWithin (length c.events + length c.free) c.bounds
    pub events : AllByRecursion (IsProperEvent names c) c.events
    pub named : IsNamed c
    pub sets : AllByRecursion (λ s. s.variable < length c.variables) c.sets
    pub differs : AllByRecursion (λ d. (d.0 < length c.variables) × (d.1 < length c.variables)) c.differs
    pub windows : AllByRecursion (IsProperWindow names c) c.windows
    pub emits : AllByRecursion (IsProperEmit names c) c.emits

  pub record AreProper (m : Models S) : Type 0 where
    pub names_few : length m.names + length m.derived ≤ NAME_LIMIT
    pub arities : AreShort (m.names ++ m.derived)
    pub chronicles_few : length m.chronicles ≤ CHRONICLE_LIMIT
    pub chronicles : AllByRecursion (IsProperChronicle (m.names ++ m.derived)) m.chronicles
    pub in_order : AreInOrder m.chronicles
