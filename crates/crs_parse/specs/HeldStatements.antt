-- What is said of statements whose symbols a table holds, and whose numbers fit.
use Rattle.std.specs.Prelude.{◌≡◌, ◌≤◌, ◌≤ℤ◌, ◌+ℤ◌, ◌+◌, ℕ, ℤ, pos, true, false, List, ◌∷◌, length, IfSome}
use Rattle.std.specs.List.{AllByRecursion}
use Rattle.crs_base.specs.Symbols.{is_known, is_symbol}
use Rattle.crs_model.specs.declared.limits.TheConstants.{TICK_LIMIT, LEVEL_LIMIT, COUNT_LIMIT, VARIABLE_LIMIT, POINT_LIMIT, ARITY_LIMIT}
use Rattle.crs_grammar.specs.Statements.{Term, Value, Pattern, Event, Emission, Body, NoEvent, Occurs, Hold, Window, Distance}
use Rattle.crs_parse.specs.Faults.{Kind, OfMessage, OfAttribute, OfDerived, Name, Written, Reading, shift_size, is_any}
use Rattle.crs_parse.specs.Meant.{level_of}

-- a symbol that the table holds
pub record IsHeld (texts : List (List ℕ)) (t : List ℕ) : Type 0 where
  pub known : is_known texts t ≡ true
  pub symbol : is_symbol t ≡ true

-- a size of at most the limit of ticks
pub record IsNear (z : ℤ) : Type 0 where
  pub not_large : z ≤ℤ pos TICK_LIMIT
  pub not_small : pos 0 ≤ℤ (z +ℤ pos TICK_LIMIT)

pub record AreNear (d : Distance) : Type 0 where
  pub low : IfSome d.low IsNear
  pub high : IfSome d.high IsNear

-- an `occurs` wants no more entries than it allows, and a `hold` has no `*`
abbrev pub IsFirmBody : Body → Type 0
IsFirmBody (NoEvent p) = Unit {0}
IsFirmBody (Occurs least most p) = IfSome most (λ m. least ≤ m)
IsFirmBody (Hold name terms value) = AllByRecursion (λ t. is_any t ≡ false) (value ∷ terms)

module _ (texts : List (List ℕ)) where
  abbrev pub AreHeld : List (List ℕ) → Type 0
  AreHeld ts = AllByRecursion (IsHeld texts) ts

  abbrev pub IsHeldTerm : Term → Type 0
  IsHeldTerm (Value s) = IsHeld texts s
  IsHeldTerm _ = Unit {0}

  abbrev pub AreHeldTerms : List Term → Type 0
  AreHeldTerms ts = AllByRecursion IsHeldTerm ts

  pub record IsHeldPattern (p : Pattern) : Type 0 where
    pub name : IsHeld texts p.name
    pub terms : AreHeldTerms p.terms
    pub change : IfSome p.change (λ c. IsHeldTerm c.0 × IsHeldTerm c.1)

  pub record IsHeldEvent (e : Event) : Type 0 where
    pub pattern : IsHeldPattern e.pattern
    pub point : IsHeld texts e.point
    pub level : level_of e.level ≤ LEVEL_LIMIT

  -- the symbols are held, and the counts keep to the limit
  abbrev pub IsHeldBody : Body → Type 0
  IsHeldBody (NoEvent p) = IsHeldPattern p
  IsHeldBody (Occurs least most p) = IsHeldPattern p × (least ≤ COUNT_LIMIT) × IfSome most (λ m. m ≤ COUNT_LIMIT)
  IsHeldBody (Hold name terms value) = IsHeld texts name × AreHeldTerms terms × IsHeldTerm value

  pub record IsHeldWindow (w : Window) : Type 0 where
    pub body : IsHeldBody w.body
    pub firm : IsFirmBody w.body
    pub from : shift_size w.from.shift ≤ TICK_LIMIT
    pub to : shift_size w.to.shift ≤ TICK_LIMIT

  pub record IsHeldSet (s : List ℕ × List (List ℕ)) : Type 0 where
    pub variable : IsHeld texts s.0
    pub values : AreHeld s.1

  -- it has no `*`
  pub record IsHeldEmission (e : Emission) : Type 0 where
    pub pattern : IsHeldPattern e.pattern
    pub point : IsHeld texts e.point
    pub firm : AllByRecursion (λ t. is_any t ≡ false) e.pattern.terms

  -- a chronicle whose symbols a table holds, and which keeps to the limits
  pub record IsHeldChronicle (c : Written) : Type 0 where
    pub name : IsHeld texts c.name
    pub events : AllByRecursion IsHeldEvent c.events
    pub free : AreHeld c.free
    pub bounds : AllByRecursion AreNear c.bounds
    pub variables : AreHeld c.variables
    pub sets : AllByRecursion IsHeldSet c.sets
    pub windows : AllByRecursion IsHeldWindow c.windows
    pub emits : AllByRecursion IsHeldEmission c.emits
    pub few_variables : length c.variables ≤ VARIABLE_LIMIT
    pub few_points : length c.events + length c.free ≤ POINT_LIMIT

  abbrev pub IsHeldKind : Kind → Type 0
  IsHeldKind OfMessage = Unit {0}
  IsHeldKind (OfAttribute values) = IfSome values AreHeld
  IsHeldKind OfDerived = Unit {0}

  pub record IsHeldName (n : Name) : Type 0 where
    pub name : IsHeld texts n.name
    pub arity : n.arity ≤ ARITY_LIMIT
    pub kind : IsHeldKind n.kind

  pub record IsHeldReading (r : Reading) : Type 0 where
    pub names : AllByRecursion IsHeldName r.names
    pub done : AllByRecursion (λ d. IsHeldChronicle d.1) r.done
