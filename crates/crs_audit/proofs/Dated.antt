-- A list in the order of dates, parted at a date.
use Rattle.std.proofs.Common.{◌≡◌, ℕ, ◌≤◌, ◌<◌, Bool, true, false, cond, nat_lt, nat_le, List, [], ◌∷◌, length, map, filter, take, drop, refl, sym, ap, arith, get_or, zero, suc}
use Rattle.std.proofs.lemmas.Bool.Decides.{nat_tests}
use Rattle.std.specs.List.{AllByRecursion}
use Rattle.crs_base.specs.Words.{Ordered}

module _ {X : Type 0} where
  filter_none : (p : X → Bool) (xs : List X) → ((k : ℕ) (d : X) → k < length xs → p (get_or xs k d) ≡ false) → filter p xs ≡ []
  filter_none p [] h = refl
  filter_none p (x ∷ xs) h = simp (h 0 x (omega arith)) (filter_none p xs (λ k d l. h (suc k) d (omega arith)))

  filter_all : (p : X → Bool) (xs : List X) → ((k : ℕ) (d : X) → k < length xs → p (get_or xs k d) ≡ true) → filter p xs ≡ xs
  filter_all p [] h = refl
  filter_all p (x ∷ xs) h = simp (h 0 x (omega arith)) (ap (λ w. x ∷ w) (filter_all p xs (λ k d l. h (suc k) d (omega arith))))

  pub take_filter : (p : X → Bool) (xs : List X) (i : ℕ) → ((k : ℕ) (d : X) → k < i → p (get_or xs k d) ≡ true)
      → ((k : ℕ) (d : X) → i ≤ k → k < length xs → p (get_or xs k d) ≡ false) → take i xs ≡ filter p xs
  take_filter p [] zero yeah nay = refl
  take_filter p [] (suc i) yeah nay = refl
  take_filter p (x ∷ xs) zero yeah nay = sym (filter_none p (x ∷ xs) (λ k d l. nay k d (omega arith) l))
  take_filter p (x ∷ xs) (suc i) yeah nay =
      simp (yeah 0 x (omega arith)) (ap (λ w. x ∷ w) (take_filter p xs i (λ k d l. yeah (suc k) d (omega arith)) (λ k d l m. nay (suc k) d (omega arith) (omega arith))))

  pub drop_filter : (q : X → Bool) (xs : List X) (i : ℕ) → ((k : ℕ) (d : X) → k < i → q (get_or xs k d) ≡ false)
      → ((k : ℕ) (d : X) → i ≤ k → k < length xs → q (get_or xs k d) ≡ true) → drop i xs ≡ filter q xs
  drop_filter q [] zero nay yeah = refl
  drop_filter q [] (suc i) nay yeah = refl
  drop_filter q (x ∷ xs) zero nay yeah = sym (filter_all q (x ∷ xs) (λ k d l. yeah k d (omega arith) l))
  drop_filter q (x ∷ xs) (suc i) nay yeah =
      simp (nay 0 x (omega arith)) (drop_filter q xs i (λ k d l. nay (suc k) d (omega arith)) (λ k d l m. yeah (suc k) d (omega arith) (omega arith)))

  at_place : (P : X → Type 0) (xs : List X) → AllByRecursion P xs → (j : ℕ) (d : X) → j < length xs → P (get_or xs j d)
  at_place P [] h j d k = absurd (omega arith)
  at_place P (x ∷ xs) h zero d k = h.0
  at_place P (x ∷ xs) h (suc j) d k = at_place P xs h.1 j d (omega arith)

  pub in_places : (f : X → ℕ) (xs : List X) → Ordered (λ a b. f a ≤ f b) xs → (i j : ℕ) (d : X) → i ≤ j → j < length xs → f (get_or xs i d) ≤ f (get_or xs j d)
  in_places f [] h i j d k l = absurd (omega arith)
  in_places f (x ∷ xs) h zero zero d k l = omega arith
  in_places f (x ∷ xs) h zero (suc j) d k l = at_place (λ b. f x ≤ f b) xs h.0 j d (omega arith)
  in_places f (x ∷ xs) h (suc i) zero d k l = absurd (omega arith)
  in_places f (x ∷ xs) h (suc i) (suc j) d k l = in_places f xs h.1 i j d (omega arith) (omega arith)

  module _ {Y : Type 0} (f : X → Y) where
    pub filter_seen : (p : Y → Bool) (xs : List X) → map f (filter (λ x. p (f x)) xs) ≡ filter p (map f xs)
    filter_seen p [] = refl
    filter_seen p (x ∷ xs) = step (p (f x)) (filter_seen p xs)
      where
        step : (b : Bool) → map f (filter (λ x. p (f x)) xs) ≡ filter p (map f xs)
            → map f (cond b (x ∷ filter (λ x. p (f x)) xs) (filter (λ x. p (f x)) xs)) ≡ cond b (f x ∷ filter p (map f xs)) (filter p (map f xs))
        step true e = ap (λ w. f x ∷ w) e
        step false e = e

    ordered_under_all : (R : Y → Type 0) (xs : List X) → AllByRecursion R (map f xs) → AllByRecursion (λ x. R (f x)) xs
    ordered_under_all R [] h = tt
    ordered_under_all R (x ∷ xs) h = (h.0, ordered_under_all R xs h.1)

    pub ordered_under : (R : Y → Y → Type 0) (xs : List X) → Ordered R (map f xs) → Ordered (λ a b. R (f a) (f b)) xs
    ordered_under R [] h = tt
    ordered_under R (x ∷ xs) h = (ordered_under_all (R (f x)) xs h.0, ordered_under R xs h.1)

pub lt_not_le : (a b : ℕ) → nat_lt a b ≡ true → nat_le b a ≡ false
lt_not_le a b h = grind (arith, nat_tests)

pub not_lt_le : (a b : ℕ) → nat_lt a b ≡ false → nat_le b a ≡ true
not_lt_le a b h = grind (arith, nat_tests)

pub lt_down : (a b c : ℕ) → a ≤ b → nat_lt b c ≡ true → nat_lt a c ≡ true
lt_down a b c h k = grind (arith, nat_tests)
