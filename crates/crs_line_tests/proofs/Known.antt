-- Symbols whose numbers are written out have texts.
use Rattle.std.proofs.Common.{◌≡◌, ◌<◌, ℕ, List, [], ◌∷◌, map, sym, subst}
use Rattle.std.specs.List.{AllByRecursion}

each_itself : {A : Type 0} (f : A → ℕ) (n : ℕ) (xs : List A) → AllByRecursion (λ k. k < n) (map f xs) → AllByRecursion (λ x. f x < n) xs
each_itself f n [] h = tt
each_itself f n (x ∷ xs) h = (h.0, each_itself f n xs h.1)

-- those whose numbers are these
pub known_by : {A : Type 0} (f : A → ℕ) (n : ℕ) (xs : List A) (ns : List ℕ) → map f xs ≡ ns → AllByRecursion (λ k. k < n) ns → AllByRecursion (λ x. f x < n) xs
known_by f n xs ns e h = each_itself f n xs (subst (AllByRecursion (λ k. k < n)) (sym e) h)

-- what holds of each g x holds of each member of the list of these
pub through : {A B : Type 0} (P : B → Type 0) (g : A → B) (xs : List A) → AllByRecursion (λ x. P (g x)) xs → AllByRecursion P (map g xs)
through P g [] h = tt
through P g (x ∷ xs) h = (h.0, through P g xs h.1)
