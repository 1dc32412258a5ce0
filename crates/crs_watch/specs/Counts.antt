-- How many of a list there are, as far as that matters.
use Rattle.std.specs.Prelude.{◌⊎◌, ◌≤◌, ℕ, List}
use Rattle.crs_model.specs.Verdicts.{Count}

-- n of the list are such, or so many of them that more don't matter: no fewer than `most`
abbrev pub CountsTo : {A : Type 0} → (A → Type 0) → List A → ℕ → ℕ → Type 0
CountsTo P xs most n = Count P xs n ⊎ ((most ≤ n) × (c : ℕ) × Count P xs c × (n ≤ c))
