-- A list in order of dates, split at a date.
use Rattle.std.proofs.Common.{◌≡◌, ℕ, ◌≤◌, ◌<◌, Bool, true, false, cond, nat_lt, nat_le, List, [], ◌∷◌, ◌++◌, length, map, filter, take, drop, refl, sym, ap, arith, get_or, zero, suc, Some, ◌+◌}
use Rattle.std.specs.Prelude.{slice_get}
use Rattle.std.proofs.lemmas.Bool.Decides.{nat_tests}
use Rattle.std.specs.List.{AllByRecursion}
use Rattle.crs_base.specs.Words.{Ordered}
use Rattle.crs_base.proofs.Words.{each_from_in, in_from_each, in_append_left}

module _ {X : Type 0} where
  filter_none : (p : X → Bool) (xs : List X) → ((k : ℕ) (d : X) → k < length xs → p (get_or xs k d) ≡ false) → filter p xs ≡ []
  filter_none p [] h = refl
  filter_none p (x ∷ xs) h = simp (h 0 x (omega arith)) (filter_none p xs (λ k d l. h (suc k) d (omega arith)))

  filter_all : (p : X → Bool) (xs : List X) → ((k : ℕ) (d : X) → k < length xs → p (get_or xs k d) ≡ true) → filter p xs ≡ xs
  filter_all p [] h = refl
  filter_all p (x ∷ xs) h = simp (h 0 x (omega arith)) (ap (λ w. x ∷ w) (filter_all p xs (λ k d l. h (suc k) d (omega arith))))

  pub take_filter : (p : X → Bool) (xs : List X) (i : ℕ) → ((k : ℕ) (d : X) → k < i → p (get_or xs k d) ≡ true)
      → ((k : ℕ) (d : X) → i ≤ k → k < length xs → p (get_or xs k d) ≡ false) → take i xs ≡ filter p xs
  take_filter p [] zero yeah nay = refl
  take_filter p [] (suc i) yeah nay = refl
  take_filter p (x ∷ xs) zero yeah nay = sym (filter_none p (x ∷ xs) (λ k d l. nay k d (omega arith) l))
  take_filter p (x ∷ xs) (suc i) yeah nay =
      simp (yeah 0 x (omega arith)) (ap (λ w. x ∷ w) (take_filter p xs i (λ k d l. yeah (suc k) d (omega arith)) (λ k d l m. nay (suc k) d (omega arith) (omega arith))))

  pub drop_filter : (q : X → Bool) (xs : List X) (i : ℕ) → ((k : ℕ) (d : X) → k < i → q (get_or xs k d) ≡ false)
      → ((k : ℕ) (d : X) → i ≤ k → k < length xs → q (get_or xs k d) ≡ true) → drop i xs ≡ filter q xs
  drop_filter q [] zero nay yeah = refl
  drop_filter q [] (suc i) nay yeah = refl
  drop_filter q (x ∷ xs) zero nay yeah = sym (filter_all q (x ∷ xs) (λ k d l. yeah k d (omega arith) l))
  drop_filter q (x ∷ xs) (suc i) nay yeah =
      simp (nay 0 x (omega arith)) (drop_filter q xs i (λ k d l. nay (suc k) d (omega arith)) (λ k d l m. yeah (suc k) d (omega arith) (omega arith)))

  module _ {Y : Type 0} (f : X → Y) where
    pub filter_seen : (p : Y → Bool) (xs : List X) → map f (filter (λ x. p (f x)) xs) ≡ filter p (map f xs)
    filter_seen p [] = refl
    filter_seen p (x ∷ xs) = step (p (f x)) (filter_seen p xs)
      where
        step : (b : Bool) → map f (filter (λ x. p (f x)) xs) ≡ filter p (map f xs)
            → map f (cond b (x ∷ filter (λ x. p (f x)) xs) (filter (λ x. p (f x)) xs)) ≡ cond b (f x ∷ filter p (map f xs)) (filter p (map f xs))
        step true e = ap (λ w. f x ∷ w) e
        step false e = e

    ordered_under_all : (R : Y → Type 0) (xs : List X) → AllByRecursion R (map f xs) → AllByRecursion (λ x. R (f x)) xs
    ordered_under_all R [] h = tt
    ordered_under_all R (x ∷ xs) h = (h.0, ordered_under_all R xs h.1)

    pub ordered_under : (R : Y → Y → Type 0) (xs : List X) → Ordered R (map f xs) → Ordered (λ a b. R (f a) (f b)) xs
    ordered_under R [] h = tt
    ordered_under R (x ∷ xs) h = (ordered_under_all (R (f x)) xs h.0, ordered_under R xs h.1)

pub lt_not_le : (a b : ℕ) → nat_lt a b ≡ true → nat_le b a ≡ false
lt_not_le a b h = grind (arith, nat_tests)

pub not_lt_le : (a b : ℕ) → nat_lt a b ≡ false → nat_le b a ≡ true
not_lt_le a b h = grind (arith, nat_tests)

pub lt_down : (a b c : ℕ) → a ≤ b → nat_lt b c ≡ true → nat_lt a c ≡ true
lt_down a b c h k = grind (arith, nat_tests)

-- both parts of a list in order are in order
module _ {A : Type 0} (R : A → A → Type 0) where
  pub ordered_front : (xs ys : List A) → Ordered R (xs ++ ys) → Ordered R xs
  ordered_front [] ys h = tt
  ordered_front (x ∷ xs) ys h = (each_from_in (R x) xs (λ y i. in_from_each (R x) (xs ++ ys) h.0 y (in_append_left xs ys y i)), ordered_front xs ys h.1)

  pub ordered_back : (xs ys : List A) → Ordered R (xs ++ ys) → Ordered R ys
  ordered_back [] ys h = h
  ordered_back (x ∷ xs) ys h = ordered_back xs ys h.1

pub filter-append : {A : Type 0} (p : A → Bool) (xs ys : List A) → filter p (xs ++ ys) ≡ filter p xs ++ filter p ys
filter-append p [] ys = refl
filter-append {A} p (x ∷ xs) ys = step (p x) (filter-append p xs ys)
  where
    step : (b : Bool) → filter p (xs ++ ys) ≡ filter p xs ++ filter p ys → cond b (x ∷ filter p (xs ++ ys)) (filter p (xs ++ ys)) ≡ cond b (x ∷ filter p xs) (filter p xs) ++ filter p ys
    step true e = ap (λ w. x ∷ w) e
    step false e = e

-- a list whose item at the last place is x ends with x
pub ends_at : {A : Type 0} (xs : List A) (n : ℕ) (x : A) → n + 1 ≡ length xs → Some x ≡ slice_get xs n → (front : List A) × (xs ≡ front ++ x ∷ [])
ends_at [] n x l e = absurd (omega arith)
ends_at (y ∷ []) zero x l e = ([], cc)
ends_at (y ∷ []) (suc n) x l e = absurd (omega arith)
ends_at (y ∷ z ∷ xs) zero x l e = absurd (omega arith)
ends_at (y ∷ z ∷ xs) (suc n) x l e = let p = ends_at (z ∷ xs) n x (omega arith) e in (y ∷ p.0, ap (λ w. y ∷ w) p.1)
