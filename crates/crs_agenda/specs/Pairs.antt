-- The order of an agenda's pairs.
use Rattle.std.specs.Prelude.{◌≡◌, ◌<ℤ◌, ℕ, ℤ, Bool, List, ◌∷◌, All}
use Rattle.std.specs.Ordering.{nat_cmp, int_cmp, on, then_cmp, is_eq}
use Rattle.std.specs.declared.cmp.Ordering.{Ordering}
use Rattle.std.specs.declared.cmp.Ordering.TheVariants.{Less}

-- by date, then by number
abbrev pub pair_cmp : ℤ × ℕ → ℤ × ℕ → Ordering
pair_cmp = then_cmp (on (λ p. p.0) int_cmp) (on (λ p. p.1) nat_cmp)

-- the first pair comes before the second
abbrev pub IsBefore : ℤ × ℕ → ℤ × ℕ → Type 0
IsBefore p q = pair_cmp p q ≡ Less

-- the two pairs are one
abbrev pub is_pair : ℤ × ℕ → ℤ × ℕ → Bool
is_pair p q = is_eq (pair_cmp p q)

-- the number is that of the least pair, which is dated before h; the others are left
abbrev pub TakesLeast : ℤ → List (ℤ × ℕ) → List (ℤ × ℕ) → ℕ → Type 0
TakesLeast h old new id = (d : ℤ) × (d <ℤ h) × (old ≡ (d, id) ∷ new) × All (IsBefore (d, id)) new
