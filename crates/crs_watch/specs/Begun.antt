-- What breaks a `hold` that begins.
use Rattle.std.specs.Prelude.{◌⊎◌, ℤ, ◌≤ℤ◌, ◌<ℤ◌, List}
use Rattle.crs_base.specs.Words.{IsIn}
use Rattle.crs_base.specs.Entry.{Entry}
use Rattle.crs_base.specs.Values.{Attribute, IsChange, NewIs, HasValue}
use Rattle.crs_model.specs.Verdicts.{IsChangedFrom}

module _ {S : Type 0} where
  -- one of them is a change of the attribute that brings another value
  abbrev pub HasStray : Attribute S → S → List (Entry S) → Type 0
  HasStray a v es = (e : Entry S) × IsIn e es × IsChange a e × (NewIs v e → ⊥)

  -- not the value at each date of the stretch before h, or a change in the stretch brings another
  abbrev pub Falls : List (Entry S) → Attribute S → S → ℤ → ℤ → ℤ → Type 0
  Falls entries a v from to h = (((t : ℤ) → from ≤ℤ t → t <ℤ to → t <ℤ h → HasValue a entries t v) → ⊥) ⊎ IsChangedFrom entries a v from to
