-- What is read of a list of entries.
use Rattle.std.specs.Prelude.{◌≡◌, ℕ, ℤ, pos, ◌≤ℤ◌, ◌<ℤ◌, Bool, nat_lt, nat_le, ◌==◌, List}
use Rattle.crs_base.specs.declared.symbols.Sym.{Sym}
use Rattle.crs_base.specs.Words.{IsIn}
use Rattle.crs_base.specs.Entry.{Entry}
use Rattle.crs_base.specs.Sifted.{Sifts}
use Rattle.crs_base.specs.Values.{Attribute, IsChange, NewIs, HasValue}
use Rattle.crs_history.specs.Dropping.{Drops}

module _ {S : Type 0} where
  -- the entry is dated from the one date on and before the other
  pub record IsBetween (from to : ℤ) (e : Entry S) : Type 0 where
    pub since : from ≤ℤ pos e.date
    pub before : pos e.date <ℤ to

  -- the entry has this name, and is dated so
  pub record IsNamedIn (name : S) (from to : ℤ) (e : Entry S) : Type 0 where
    pub named : e.name ≡ name
    pub since : from ≤ℤ pos e.date
    pub before : pos e.date <ℤ to

  -- ys are those of the entries that are dated so, in their order, but that some are left out of which P doesn't hold
  abbrev pub Finds : (Entry S → Type 0) → ℤ → ℤ → List (Entry S) → List (Entry S) → Type 0
  Finds P from to entries ys = (zs : List (Entry S)) × Sifts (IsBetween from to) entries zs × Drops (λ e. P e → ⊥) zs ys

  -- the attribute has the value at each date from the one on and before the other
  abbrev pub HasValueOver : Attribute S → List (Entry S) → S → ℤ → ℤ → Type 0
  HasValueOver a entries v from to = (t : ℤ) → from ≤ℤ t → t <ℤ to → HasValue a entries t v

  -- where the entry changes the attribute, its new value is v
  abbrev pub Agrees : Attribute S → S → Entry S → Type 0
  Agrees a v e = IsChange a e → NewIs v e

  abbrev pub AllAgree : Attribute S → S → List (Entry S) → Type 0
  AllAgree a v es = (e : Entry S) → IsIn e es → Agrees a v e

  -- each of them has the new value v
  abbrev pub AllBring : S → List (Entry S) → Type 0
  AllBring v es = (e : Entry S) → IsIn e es → NewIs v e

  -- each of them changes the attribute
  abbrev pub AreChanges : Attribute S → List (Entry S) → Type 0
  AreChanges a es = (e : Entry S) → IsIn e es → IsChange a e

abbrev pub is_named : Sym → Entry Sym → Bool
is_named name e = e.name.0 == name.0

abbrev pub is_before : ℕ → Entry Sym → Bool
is_before date e = nat_lt e.date date

abbrev pub is_since : ℕ → Entry Sym → Bool
is_since date e = nat_le date e.date
