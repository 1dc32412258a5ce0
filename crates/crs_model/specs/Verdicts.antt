-- Windows: their stretch of dates, and their verdict at a horizon over a list of entries.
use Rattle.std.specs.Prelude.{◌≡◌, ◌⊎◌, ℕ, suc, ◌<◌, ◌≤◌, ℤ, pos, ◌+ℤ◌, ◌≤ℤ◌, ◌<ℤ◌, List, [], ◌∷◌, IfSome, IsSomeAnd}
use Rattle.std.specs.List.{AllZip, AllByRecursion}
use Rattle.crs_base.specs.Words.{IsIn}
use Rattle.crs_base.specs.Entry.{Entry}
use Rattle.crs_base.specs.Values.{Attribute, IsChange, NewIs, HasValue}
use Rattle.crs_model.specs.Models.{Term, Value, Var, Any, Pattern, Window, Body, NoEvent, Occurs, Hold}
use Rattle.crs_model.specs.Matching.{Binding, TermIs, PatternIs}
use Rattle.crs_model.specs.Partial.{Partial, at}

-- n of them are such
abbrev pub Count : {A : Type 0} → (A → Type 0) → List A → ℕ → Type 0
Count P [] n = n ≡ 0
Count P (x ∷ xs) n = (P x × (m : ℕ) × (n ≡ suc m) × Count P xs m) ⊎ ((P x → ⊥) × Count P xs n)

module _ {S : Type 0} where
  -- the entry is dated in the stretch, whose end isn't in it
  abbrev pub IsDatedIn : ℤ → ℤ → Entry S → Type 0
  IsDatedIn from to e = (from ≤ℤ pos e.date) × (pos e.date <ℤ to)

  -- the attribute has the wanted value at each date of the stretch that is before `until`
  abbrev pub HoldsOver : List (Entry S) → Attribute S → S → ℤ → ℤ → Type 0
  HoldsOver entries a v from until = (t : ℤ) → from ≤ℤ t → t <ℤ until → HasValue a entries t v

  -- at some date of the stretch before h the value isn't v
  abbrev pub IsUnlikeBefore : List (Entry S) → Attribute S → S → ℤ → ℤ → ℤ → Type 0
  IsUnlikeBefore entries a v from to h = (t : ℤ) × (from ≤ℤ t) × (t <ℤ to) × (t <ℤ h) × (HasValue a entries t v → ⊥)

  -- some change of the attribute dated in the stretch has another new value
  abbrev pub IsChangedFrom : List (Entry S) → Attribute S → S → ℤ → ℤ → Type 0
  IsChangedFrom entries a v from to = (e : Entry S) × IsIn e entries × IsChange a e × IsDatedIn from to e × (NewIs v e → ⊥)

  -- the attribute of a `hold` under a binding, and the wanted value
  pub record IsHeld (look : Binding S) (name : S) (terms : List (Term S)) (value : Term S) (a : Attribute S) (v : S) : Type 0 where
    pub name_is : a.name ≡ name
    pub args_are : AllZip (TermIs look) terms a.args
    pub value_is : TermIs look value v

  -- the count of entries of the pattern dated in the stretch
  abbrev pub IsCount : List (Entry S) → Binding S → Pattern S → ℤ → ℤ → ℕ → Type 0
  IsCount entries look p from to n = Count (λ e. IsDatedIn from to e × PatternIs look p e) entries n

  -- what the window wants is so over the whole stretch
  abbrev pub IsSo : List (Entry S) → Binding S → Body S → ℤ → ℤ → Type 0
  IsSo entries look (NoEvent p) from to = IsCount entries look p from to 0
  IsSo entries look (Occurs least most p) from to = (n : ℕ) × IsCount entries look p from to n × (least ≤ n) × IfSome most (λ m. n ≤ m)
  IsSo entries look (Hold name terms value) from to =
      (a : Attribute S) (v : S) → IsHeld look name terms value a v → HoldsOver entries a v from to

  -- it can't be so any more, though the stretch isn't settled at h
  abbrev pub IsSpoilt : List (Entry S) → Binding S → Body S → ℤ → ℤ → ℤ → Type 0
  IsSpoilt entries look (NoEvent p) from to h = IsCount entries look p from to 0 → ⊥
  IsSpoilt entries look (Occurs least most p) from to h = IsSomeAnd most (λ m. (n : ℕ) → IsCount entries look p from to n → m < n)
  IsSpoilt entries look (Hold name terms value) from to h =
      (a : Attribute S) × (v : S) × IsHeld look name terms value a v × (IsUnlikeBefore entries a v from to h ⊎ IsChangedFrom entries a v from to)

  -- the dates of the stretch
  pub record IsStretch (a : Partial S) (w : Window S) (from to : ℤ) : Type 0 where
    pub starts : IsSomeAnd (at a w.from.event) (λ e. from ≡ pos e.date +ℤ w.from.offset)
    pub ends : IsSomeAnd (at a w.to.event) (λ e. to ≡ pos e.date +ℤ w.to.offset)

  abbrev pub TermIsBound : Binding S → Term S → Type 0
  TermIsBound look (Value x) = Unit {0}
  TermIsBound look (Var v) = IsSomeAnd (look v) (λ _. Unit {0})
  TermIsBound look Any = Unit {0}

  abbrev pub PatternIsBound : Binding S → Pattern S → Type 0
  PatternIsBound look p = AllByRecursion (TermIsBound look) p.terms × IfSome p.change (λ c. TermIsBound look c.0 × TermIsBound look c.1)

  -- the variables of the body are bound
  abbrev pub BodyIsBound : Binding S → Body S → Type 0
  BodyIsBound look (NoEvent p) = PatternIsBound look p
  BodyIsBound look (Occurs least most p) = PatternIsBound look p
  BodyIsBound look (Hold name terms value) = AllByRecursion (TermIsBound look) terms × TermIsBound look value

  -- the window's anchors and variables are bound, it is settled at h, and what it wants is so
  pub record IsMet (look : Binding S) (a : Partial S) (entries : List (Entry S)) (h : ℕ) (w : Window S) : Type 0 where
    pub from : ℤ
    pub to : ℤ
    pub stretch : IsStretch a w from to
    pub bound : BodyIsBound look w.body
    pub settled : to ≤ℤ pos h
    pub so : IsSo entries look w.body from to

  -- the window's anchors and variables are bound, and it is settled at h and not so, or not settled and spoilt
  pub record IsLost (look : Binding S) (a : Partial S) (entries : List (Entry S)) (h : ℕ) (w : Window S) : Type 0 where
    pub from : ℤ
    pub to : ℤ
    pub stretch : IsStretch a w from to
    pub bound : BodyIsBound look w.body
    pub lost : ((to ≤ℤ pos h) × (IsSo entries look w.body from to → ⊥)) ⊎ ((pos h <ℤ to) × IsSpoilt entries look w.body from to (pos h))
