-- Lists by number.
use Rattle.std.specs.Prelude.{◌≡◌, ℕ, List, [], slice_index_or}

module _ {A : Type 0} where
  -- the list of a number, which is empty where there are not so many
  abbrev pub lane_of : List (List A) → ℕ → List A
  lane_of lanes n = slice_index_or lanes n []

  -- each number has the list that it had
  abbrev pub AreAlike : List (List A) → List (List A) → Type 0
  AreAlike old new = (n : ℕ) → lane_of new n ≡ lane_of old n

  -- the number has this list, and each other number the one that it had
  abbrev pub IsSetTo : List (List A) → ℕ → List A → List (List A) → Type 0
  IsSetTo old k lane new = (lane_of new k ≡ lane) × ((n : ℕ) → (n ≡ k → ⊥) → lane_of new n ≡ lane_of old n)
