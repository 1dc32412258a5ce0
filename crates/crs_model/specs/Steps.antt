-- What comes of a held partial assignment when an entry is offered.
use Rattle.std.specs.Prelude.{◌≡◌, ◌≢◌, ℕ, List}
use Rattle.crs_base.specs.Words.{IsIn}
use Rattle.crs_base.specs.Entry.{Entry}
use Rattle.crs_model.specs.Partial.{Partial}

-- all levels are 0
abbrev pub flat : ℕ → ℕ
flat e = 0

module _ {S : Type 0} where
  -- no entry of the pool has the arrival number of x
  abbrev pub IsFresh : List (Entry S) → Entry S → Type 0
  IsFresh pool x = (e : Entry S) → IsIn e pool → e.arrival ≢ x.arrival

  -- itself, where that is fine
  abbrev pub GoesOn : (Partial S → Type 0) → Partial S → Partial S → Type 0
  GoesOn Fine a b = (b ≡ a) × Fine b
