-- The field of a number.
use Rattle.std.proofs.Common.{◌≡◌, ℕ, zero, suc, List, [], ◌∷◌, Option, Some, None, get_or, refl}
use Rattle.csv.specs.Records.{field_at}

pub field_there : (fields : List (List ℕ)) (i : ℕ) (f : List ℕ) → Some f ≡ field_at fields i → f ≡ get_or fields i []
unfolding field_at
field_there [] i f e = cc e
field_there (g ∷ gs) zero f e = cc e
field_there (g ∷ gs) (suc i) f e = field_there gs i f e

pub no_field_there : (fields : List (List ℕ)) (i : ℕ) → ◌≡◌ {A = Option (List ℕ)} None (field_at fields i) → ◌≡◌ {A = List ℕ} [] (get_or fields i [])
unfolding field_at
no_field_there [] i e = refl
no_field_there (g ∷ gs) zero e = cc e
no_field_there (g ∷ gs) (suc i) e = no_field_there gs i e
