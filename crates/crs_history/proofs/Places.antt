-- The places of a list in the order of a number.
use Rattle.std.proofs.Common.{ℕ, ◌≤◌, ◌<◌, List, [], ◌∷◌, length, arith, get_or, zero, suc}
use Rattle.std.specs.List.{AllByRecursion}
use Rattle.crs_base.specs.Words.{Ordered}

module _ {X : Type 0} where
  at_place : (P : X → Type 0) (xs : List X) → AllByRecursion P xs → (j : ℕ) (d : X) → j < length xs → P (get_or xs j d)
  at_place P [] h j d k = absurd (omega arith)
  at_place P (x ∷ xs) h zero d k = h.0
  at_place P (x ∷ xs) h (suc j) d k = at_place P xs h.1 j d (omega arith)

  pub in_places : (f : X → ℕ) (xs : List X) → Ordered (λ a b. f a ≤ f b) xs → (i j : ℕ) (d : X) → i ≤ j → j < length xs → f (get_or xs i d) ≤ f (get_or xs j d)
  in_places f [] h i j d k l = absurd (omega arith)
  in_places f (x ∷ xs) h zero zero d k l = omega arith
  in_places f (x ∷ xs) h zero (suc j) d k l = at_place (λ b. f x ≤ f b) xs h.0 j d (omega arith)
  in_places f (x ∷ xs) h (suc i) zero d k l = absurd (omega arith)
  in_places f (x ∷ xs) h (suc i) (suc j) d k l = in_places f xs h.1 i j d (omega arith) (omega arith)
