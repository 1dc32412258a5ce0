-- Those items of a list of which something holds.
use Rattle.std.specs.Prelude.{◌≡◌, ◌⊎◌, List, [], ◌∷◌}

-- ys are those of xs of which P holds, in their order
abbrev pub Sifts : {A : Type 0} → (A → Type 0) → List A → List A → Type 0
Sifts P [] ys = ys ≡ []
Sifts {A} P (x ∷ xs) ys = (P x × (zs : List A) × (ys ≡ x ∷ zs) × Sifts P xs zs) ⊎ ((P x → ⊥) × Sifts P xs ys)
