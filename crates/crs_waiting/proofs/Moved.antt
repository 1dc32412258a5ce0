-- What stands in a list, whatever its order.
use Rattle.std.proofs.Common.{◌≡◌, ℕ, zero, suc, ◌<◌, List, [], ◌∷◌, length, refl, sym, subst, inl, inr, arith, get_or}
use Rattle.std.specs.Prelude.{IsPermutation, Contains}
use Rattle.std.proofs.lemmas.List.Sorted.{IsPermutation-sym, Contains-permutation}
use Rattle.crs_base.specs.Words.{IsIn}

pub in_at : {A : Type 0} (xs : List A) (k : ℕ) (d : A) → k < length xs → IsIn (get_or xs k d) xs
in_at [] k d l = absurd (omega arith)
in_at (x ∷ xs) zero d l = inl refl
in_at (x ∷ xs) (suc k) d l = inr (in_at xs k d (omega arith))

pub place_of : {A : Type 0} (xs : List A) (x d : A) → IsIn x xs → (k : ℕ) × (k < length xs) × (get_or xs k d ≡ x)
place_of [] x d i = absurd i
place_of (y ∷ xs) x d (inl e) = (0, omega arith, sym e)
place_of (y ∷ xs) x d (inr i) = let r = place_of xs x d i in (suc r.0, (let l = r.1 in omega arith), r.2)

pub contains_in : {A : Type 0} (xs : List A) (x : A) → Contains xs x → IsIn x xs
contains_in {A} xs x h = subst (λ (t : A). IsIn t xs) h.2 (in_at xs h.0 x h.1)

pub in_contains : {A : Type 0} (xs : List A) (x : A) → IsIn x xs → Contains xs x
in_contains xs x i = place_of xs x x i

pub moved_in : {A : Type 0} (xs ys : List A) → IsPermutation xs ys → (x : A) → IsIn x xs → IsIn x ys
moved_in xs ys p x i = contains_in ys x (Contains-permutation xs ys x p (in_contains xs x i))

pub moved_back : {A : Type 0} (xs ys : List A) → IsPermutation xs ys → (x : A) → IsIn x ys → IsIn x xs
moved_back xs ys p x i = moved_in ys xs (IsPermutation-sym xs ys p) x i
