-- Bindings of the program, and the least one that makes a pattern equal an entry.
use Rattle.std.specs.Prelude.{◌≡◌, ℕ, ◌<◌, List, length, Option, Some, None, IfSome, slice_index_or, Bool, cond}
use Rattle.std.specs.List.{AllByRecursion}
use Rattle.crs_base.specs.declared.symbols.Sym.{Sym}
use Rattle.crs_base.specs.Entry.{Entry}
use Rattle.crs_model.specs.Models.{Term, Value, Var, Any, Pattern}
use Rattle.crs_model.specs.Matching.{Binding, PatternIs}

-- the symbol of each variable, if it has one
abbrev pub look_of : List (Option Sym) → Binding Sym
look_of values v = slice_index_or values v None

module _ {S : Type 0} where
  -- what is bound in the first is bound to the same in the second
  abbrev pub Looser : Binding S → Binding S → Type 0
  Looser small look = (v : ℕ) (x : S) → small v ≡ Some x → look v ≡ Some x

  -- the least binding beyond `old` of which P holds
  pub record IsLeastWith (P : Binding S → Type 0) (old new : Binding S) : Type 0 where
    pub holds : P new
    pub more : Looser old new
    pub least : (other : Binding S) → Looser old other → P other → Looser new other

  -- the term's variable is below n
  abbrev pub TermIsBelow : ℕ → Term S → Type 0
  TermIsBelow n (Value x) = Unit {0}
  TermIsBelow n (Var v) = v < n
  TermIsBelow n Any = Unit {0}

  abbrev pub PatternIsBelow : ℕ → Pattern S → Type 0
  PatternIsBelow n p = AllByRecursion (TermIsBelow n) p.terms × IfSome p.change (λ c. TermIsBelow n c.0 × TermIsBelow n c.1)

-- the least binding beyond `old` of which P holds, or None where P holds of none
abbrev pub IsMatch : (Binding Sym → Type 0) → List (Option Sym) → Option (List (Option Sym)) → Type 0
IsMatch P old None = (other : Binding Sym) → Looser (look_of old) other → P other → ⊥
IsMatch P old (Some new) = IsLeastWith P (look_of old) (look_of new) × (length new ≡ length old)

-- where the answer is true, `new` is the least binding beyond `old` of which P holds; where it is false, P holds of none
abbrev pub IsMet : (Binding Sym → Type 0) → List (Option Sym) → List (Option Sym) → Bool → Type 0
IsMet P old new answer = IsMatch P old (cond answer (Some new) None)

-- some binding beyond this one makes the pattern equal the entry
abbrev pub IsFit : Pattern Sym → List (Option Sym) → Entry Sym → Type 0
IsFit p old e = (other : Binding Sym) × Looser (look_of old) other × PatternIs other p e
