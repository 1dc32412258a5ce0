-- The level of the events that come next.
use Rattle.std.specs.Prelude.{◌≡◌, ◌≢◌, ◌<◌, ◌≤◌, ◌/◌, ◌%◌, ◌^◌, ℕ, length, Option, Some, None}
use Rattle.crs_base.specs.declared.symbols.Sym.{Sym}
use Rattle.crs_model.specs.Partial.{Partial, at, IsAwaited}

-- each event is bound
abbrev pub AreAllBound : Partial Sym → Type 0
AreAllBound a = (e : ℕ) → e < length a → at a e ≢ None

-- some event of this level is awaited, and none of another level is
pub record IsCurrent (level : ℕ → ℕ) (a : Partial Sym) (l : ℕ) : Type 0 where
  pub some : (f : ℕ) × IsAwaited level a f × (level f ≡ l)
  pub only : (f : ℕ) → IsAwaited level a f → level f ≡ l

-- bit e of the number isn't set
abbrev pub IsUnset : ℕ → ℕ → Type 0
IsUnset bits e = bits / 2 ^ e % 2 ≡ 0

-- l is the level of one of the first n events whose bits aren't set, and none of these has a lesser one
pub record IsLeastAt (level : ℕ → ℕ) (bits n l : ℕ) : Type 0 where
  pub some : (f : ℕ) × (f < n) × IsUnset bits f × (level f ≡ l)
  pub least : (e : ℕ) → e < n → IsUnset bits e → l ≤ level e

-- the same, and none where the bits of all of them are set
abbrev pub IsLeastUnset : (ℕ → ℕ) → ℕ → ℕ → Option ℕ → Type 0
IsLeastUnset level bits n None = (e : ℕ) → e < n → IsUnset bits e → ⊥
IsLeastUnset level bits n (Some l) = IsLeastAt level bits n l
