-- When a pattern equals an entry, and what an assignment is.
use Rattle.std.specs.Prelude.{◌≡◌, ◌≢◌, ℕ, List, length, Option, Some, None, slice_get, IfSome}
use Rattle.std.specs.List.{AllZip, AllByRecursion}
use Rattle.crs_base.specs.Words.{IsIn, Ordered}
use Rattle.crs_base.specs.Entry.{Entry}
use Rattle.crs_model.specs.Models.{Term, Value, Var, Any, Pattern, Chronicle}

-- A binding gives some variables a symbol.
abbrev pub Binding : Type 0 → Type 0
Binding S = ℕ → Option S

-- an entry for each event, and a symbol for each variable
pub record Assignment (S : Type 0) : Type 0 where
  pub entries : List (Entry S)
  pub values : List S

module _ {S : Type 0} where
  -- the term equals the symbol
  abbrev pub TermIs : Binding S → Term S → S → Type 0
  TermIs look (Value x) y = x ≡ y
  TermIs look (Var v) y = look v ≡ Some y
  TermIs look Any y = Unit {0}

  abbrev pub ChangeIs : Binding S → Option (Term S × Term S) → Option (S × S) → Type 0
  ChangeIs look None None = Unit {0}
  ChangeIs look (Some t) (Some x) = TermIs look t.0 x.0 × TermIs look t.1 x.1
  ChangeIs look None (Some x) = ⊥
  ChangeIs look (Some t) None = ⊥

  -- the same name, and term for term the same
  pub record PatternIs (look : Binding S) (p : Pattern S) (e : Entry S) : Type 0 where
    pub name : p.name ≡ e.name
    pub terms : AllZip (TermIs look) p.terms e.args
    pub change : ChangeIs look p.change e.change

  -- the bound variables have symbols of their sets, and those that are to differ differ
  pub record IsAllowed (c : Chronicle S) (look : Binding S) : Type 0 where
    pub sets : AllByRecursion (λ s. IfSome (look s.variable) (λ x. IsIn x s.values)) c.sets
    pub differs : AllByRecursion (λ d. (x : S) → look d.0 ≡ Some x → look d.1 ≢ Some x) c.differs

  -- no entry twice
  abbrev pub AreDistinct : List (Entry S) → Type 0
  AreDistinct es = Ordered (λ d e. d.arrival ≢ e.arrival) es

  -- an assignment of the chronicle over the entries
  pub record IsAssignment (c : Chronicle S) (entries : List (Entry S)) (a : Assignment S) : Type 0 where
    pub given : AllByRecursion (λ e. IsIn e entries) a.entries
    pub distinct : AreDistinct a.entries
    pub bound : length a.values ≡ length c.variables
    pub equal : AllZip (λ v e. PatternIs (slice_get a.values) v.pattern e) c.events a.entries
    pub allowed : IsAllowed c (slice_get a.values)
