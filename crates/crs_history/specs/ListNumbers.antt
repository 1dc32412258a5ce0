-- Numbers of lists of symbols: steps lead from 0, the number of the empty list, to that of each longer one.
use Rattle.std.specs.Prelude.{◌≡◌, ◌⊎◌, ◌≤◌, ◌<◌, ℕ, List, [], ◌∷◌, length, Option, Some, None}
use Rattle.std.specs.Ordering.{on, then_cmp, nat_cmp}
use Rattle.std.specs.declared.cmp.Ordering.{Ordering}
use Rattle.std.specs.BTreeMap.{is_at}
use Rattle.std.specs.Map.{lookup}
use Rattle.crs_base.specs.declared.symbols.Sym.{Sym}
use Rattle.crs_history.specs.declared.numbers.Step.{Step}

abbrev pub step_cmp : Step → Step → Ordering
step_cmp = then_cmp (on (λ s. s.from) nat_cmp) (on (λ s. s.symbol) nat_cmp)

-- steps, each with the number that it leads to
abbrev pub Steps : Type 0
Steps = List (Step × ℕ)

-- how many numbers there are beside 0
abbrev pub count_of : Steps → ℕ
count_of m = length m

-- the number that one more symbol leads to
abbrev pub step_of : Steps → ℕ → Sym → Option ℕ
step_of m n s = lookup (is_at (step_cmp (record { from = n; symbol = s.0 }))) m

-- what the function leads to, where there is something to lead from
abbrev pub led : Option ℕ → (ℕ → Option ℕ) → Option ℕ
led None f = None
led (Some n) f = f n

-- the number that the symbols lead to from n
abbrev pub number_from : Steps → ℕ → List Sym → Option ℕ
number_from m n [] = Some n
number_from m n (s ∷ ss) = led (step_of m n s) (λ k. number_from m k ss)

-- each step leads to a greater number, and no other step to the same
pub record IsNumbering (m : Steps) : Type 0 where
  pub ascends : (n k : ℕ) (s : Sym) → step_of m n s ≡ Some k → n < k
  pub within : (n k : ℕ) (s : Sym) → step_of m n s ≡ Some k → k ≤ count_of m
  pub once : (n i k : ℕ) (s t : Sym) → step_of m n s ≡ Some k → step_of m i t ≡ Some k → (n ≡ i) × (s ≡ t)

-- the steps of the one are steps of the other, whose new ones lead to new numbers
pub record Grows (old new : Steps) : Type 0 where
  pub more : count_of old ≤ count_of new
  pub kept : (n k : ℕ) (s : Sym) → step_of old n s ≡ Some k → step_of new n s ≡ Some k
  pub fresh : (n k : ℕ) (s : Sym) → step_of new n s ≡ Some k → (step_of old n s ≡ Some k) ⊎ (count_of old < k)
