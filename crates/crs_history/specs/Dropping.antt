-- Lists of which some items are left.
use Rattle.std.specs.Prelude.{◌≡◌, ◌⊎◌, List, [], ◌∷◌}

-- ys are those of xs that are left, in their order, where P holds of each that isn't
abbrev pub Drops : {A : Type 0} → (A → Type 0) → List A → List A → Type 0
Drops P [] ys = ys ≡ []
Drops {A} P (x ∷ xs) ys = ((zs : List A) × (ys ≡ x ∷ zs) × Drops P xs zs) ⊎ (P x × Drops P xs ys)
