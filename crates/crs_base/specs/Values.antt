-- The value of an attribute at a date.
use Rattle.std.specs.Prelude.{◌≡◌, ◌≤◌, ℤ, pos, ◌≤ℤ◌, List, IsSome, IsSomeAnd}
use Rattle.crs_base.specs.Words.{IsIn}
use Rattle.crs_base.specs.Entry.{Entry}

-- a name with arguments
pub record Attribute (S : Type 0) : Type 0 where
  pub name : S
  pub args : List S

module _ {S : Type 0} where
  -- the entry changes the attribute
  pub record IsChange (a : Attribute S) (e : Entry S) : Type 0 where
    pub named : e.name ≡ a.name
    pub of : e.args ≡ a.args
    pub change : IsSome e.change

  -- the entry's new value is v
  abbrev pub NewIs : S → Entry S → Type 0
  NewIs v e = IsSomeAnd e.change (λ c. c.1 ≡ v)

  -- one of the attribute's changes of the greatest date at or before t
  pub record IsLastChange (a : Attribute S) (entries : List (Entry S)) (t : ℤ) (e : Entry S) : Type 0 where
    pub given : IsIn e entries
    pub change : IsChange a e
    pub by_then : pos e.date ≤ℤ t
    pub greatest : (d : Entry S) → IsIn d entries → IsChange a d → pos d.date ≤ℤ t → d.date ≤ e.date

  -- some change of the attribute is dated at or before t, and all its changes of the greatest such date have the new value v
  pub record HasValue (a : Attribute S) (entries : List (Entry S)) (t : ℤ) (v : S) : Type 0 where
    pub changed : (e : Entry S) × IsLastChange a entries t e
    pub agreed : (e : Entry S) → IsLastChange a entries t e → NewIs v e
