-- The settled entries.
use Rattle.std.proofs.Common.{◌≡◌, ◌≢◌, ◌<◌, ℕ, Bool, true, false, cond, List, [], ◌∷◌, filter, nat_lt, refl, sym, ap, ◌∙◌, inl, inr, Ordering, Less, Equal, Greater, nat_cmp, lt-ltb, ltb-true, ◌⊎◌}
use Rattle.std.specs.List.{AllByRecursion}
use Rattle.std.specs.Ordering.{is_lt, ordering_then}
use Rattle.std.specs.Cmp.{IsTotalOrder}
use Rattle.std.proofs.lemmas.Cmp.{ranked}
use Rattle.std.specs.Ordering.{MatchOrdering}
use Rattle.crs_base.specs.Words.{IsIn, Ordered}
use Rattle.crs_base.proofs.Words.{in_filter, in_filter_back, ordered_filter, each_from_in, in_from_each}
use Rattle.crs_base.specs.Entry.{Entry, entry_cmp}
use Rattle.crs_model.specs.Order.{put_in_order, put_all, dated_before}
use Rattle.crs_model.proofs.InOrder.{in_put, ordered_put}

then_equal : (a b : Ordering) → ordering_then a b ≡ Equal → b ≡ Equal
then_equal Less b h = cc
then_equal Equal b h = h
then_equal Greater b h = cc

ranked_equal : (x y : ℕ) (o : Ordering) → MatchOrdering o (x < y) (x ≡ y) (y < x) → o ≡ Equal → x ≡ y
ranked_equal x y Less m h = cc
ranked_equal x y Equal m h = m
ranked_equal x y Greater m h = cc

same_number : (x y : ℕ) → nat_cmp x y ≡ Equal → x ≡ y
same_number x y h = ranked_equal x y (nat_cmp x y) (ranked x y (nat_cmp x y) refl) h

module _ {S : Type 0} where
  same_arrival : (e y : Entry S) → entry_cmp e y ≡ Equal → e.arrival ≡ y.arrival
  same_arrival e y h = same_number e.arrival y.arrival (then_equal _ _ (then_equal _ _ h))

  put_in_step : (e x y : Entry S) (ys : List (Entry S)) (b : Bool) → (IsIn x (e ∷ ys) → IsIn x (put_in_order e ys)) → IsIn x (e ∷ y ∷ ys) → IsIn x (cond b (e ∷ y ∷ ys) (y ∷ put_in_order e ys))
  put_in_step e x y ys true rest h = h
  put_in_step e x y ys false rest (inl q) = inr (rest (inl q))
  put_in_step e x y ys false rest (inr (inl q)) = inl q
  put_in_step e x y ys false rest (inr (inr i)) = inr (rest (inr i))

  pub put_in : (e x : Entry S) (ys : List (Entry S)) → IsIn x (e ∷ ys) → IsIn x (put_in_order e ys)
  put_in e x [] h = h
  put_in e x (y ∷ ys) h = put_in_step e x y ys (is_lt (entry_cmp e y)) (put_in e x ys) h

  all_in : (x : Entry S) (sorted xs : List (Entry S)) → IsIn x sorted → IsIn x (put_all sorted xs)
  all_in x sorted [] h = h
  all_in x sorted (e ∷ xs) h = all_in x (put_in_order e sorted) xs (put_in e x sorted (inr h))

  all_new : (x : Entry S) (sorted xs : List (Entry S)) → IsIn x xs → IsIn x (put_all sorted xs)
  all_new x sorted [] h = absurd h
  all_new x sorted (e ∷ xs) (inl q) = all_in x (put_in_order e sorted) xs (put_in e x sorted (inl q))
  all_new x sorted (e ∷ xs) (inr h) = all_new x (put_in_order e sorted) xs h

  module _ (total : IsTotalOrder (entry_cmp {S = S})) where
    in_all : (x : Entry S) (sorted xs : List (Entry S)) → IsIn x (put_all sorted xs) → IsIn x sorted ⊎ IsIn x xs
    in_all x sorted [] h = inl h
    in_all x sorted (e ∷ xs) h = elim (in_all x (put_in_order e sorted) xs h) [
      | inl k ↦ elim (in_put total e x sorted k) [ inl q ↦ inr (inl q) | inr i ↦ inl i ]
      | inr k ↦ inr (inr k)
    ]

    none_in : (x : Entry S) → IsIn x [] ⊎ IsIn x [] → ⊥
    none_in x (inl h) = h
    none_in x (inr h) = h

    from_none : (x : Entry S) (xs : List (Entry S)) → IsIn x [] ⊎ IsIn x xs → IsIn x xs
    from_none x xs (inl h) = absurd h
    from_none x xs (inr h) = h

    -- a settled entry is one of them, dated before the horizon
    pub of_settled : (h : ℕ) (xs : List (Entry S)) (x : Entry S) → IsIn x (dated_before h xs) → IsIn x xs × (x.date < h)
    of_settled h xs x i = let k = in_filter_back (λ e. nat_lt e.date h) xs x (from_none x (filter (λ e. nat_lt e.date h) xs) (in_all x [] (filter (λ e. nat_lt e.date h) xs) i)) in (k.0, ltb-true x.date h k.1)

    -- and each such one is settled
    pub settled_of : (h : ℕ) (xs : List (Entry S)) (x : Entry S) → IsIn x xs → x.date < h → IsIn x (dated_before h xs)
    settled_of h xs x i lt = all_new x [] (filter (λ e. nat_lt e.date h) xs) (in_filter (λ e. nat_lt e.date h) xs x i (lt-ltb x.date h lt))

    ordered_all : (sorted xs : List (Entry S)) → Ordered (λ a b. entry_cmp a b ≡ Less) sorted → Ordered (λ d e. d.arrival ≢ e.arrival) xs → AllByRecursion (λ x. AllByRecursion (λ y. x.arrival ≢ y.arrival) sorted) xs → Ordered (λ a b. entry_cmp a b ≡ Less) (put_all sorted xs)
    ordered_all sorted [] o d k = o
    ordered_all sorted (e ∷ xs) o d k = ordered_all (put_in_order e sorted) xs
        (ordered_put total e sorted (each_from_in (λ y. entry_cmp e y ≢ Equal) sorted (λ y i q. in_from_each (λ y. e.arrival ≢ y.arrival) sorted k.0 y i (same_arrival e y q))) o)
        d.1
        (each_from_in (λ x. AllByRecursion (λ y. x.arrival ≢ y.arrival) (put_in_order e sorted)) xs (λ x j. each_from_in (λ y. x.arrival ≢ y.arrival) (put_in_order e sorted) (λ y i.
        elim (in_put total e y sorted i) [
          | inl q ↦ (λ m. in_from_each (λ x. e.arrival ≢ x.arrival) xs d.0 x j (sym (m ∙ ap (λ z. z.arrival) q)))
          | inr n ↦ in_from_each (λ y. x.arrival ≢ y.arrival) sorted (in_from_each (λ x. AllByRecursion (λ y. x.arrival ≢ y.arrival) sorted) xs k.1 x j) y n
        ])))

    -- the settled entries are in key order
    pub settled_in_order : (h : ℕ) (xs : List (Entry S)) → Ordered (λ d e. d.arrival ≢ e.arrival) xs → Ordered (λ a b. entry_cmp a b ≡ Less) (dated_before h xs)
    settled_in_order h xs d = ordered_all [] (filter (λ e. nat_lt e.date h) xs) tt (ordered_filter (λ d e. d.arrival ≢ e.arrival) (λ e. nat_lt e.date h) xs d)
        (each_from_in (λ x. AllByRecursion {X = Entry S} (λ y. x.arrival ≢ y.arrival) []) (filter (λ e. nat_lt e.date h) xs) (λ x i. tt))

    -- what holds of each holds of each that is settled
    pub settled_each : (P : Entry S → Type 0) (h : ℕ) (xs : List (Entry S)) → AllByRecursion P xs → AllByRecursion P (dated_before h xs)
    settled_each P h xs all = each_from_in P (dated_before h xs) (λ x i. in_from_each P xs all x (of_settled h xs x i).0)
