-- The level that an instance waits for.
use Rattle.std.specs.Prelude.{◌≡◌, ◌<◌, ℕ, length, Option, Some, None}
use Rattle.crs_model.specs.Partial.{Partial, at, IsAwaited}

-- the level of the awaited events, and None where all events are bound
abbrev pub IsCurrentLevel : {S : Type 0} → (ℕ → ℕ) → Partial S → Option ℕ → Type 0
IsCurrentLevel level a None = (e : ℕ) → e < length a → at a e ≡ None → ⊥
IsCurrentLevel level a (Some n) = (e : ℕ) × IsAwaited level a e × (level e ≡ n)
