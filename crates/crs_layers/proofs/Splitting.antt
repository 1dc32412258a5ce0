-- What is settled at a mark is what was, and behind it what is dated later.
use Rattle.std.proofs.Common.{◌≡◌, ◌≢◌, ℕ, suc, ◌+◌, ◌<◌, ◌≤◌, Bool, true, false, not, cond, nat_lt, List, [], ◌∷◌, ◌++◌, filter, length, Less, refl, sym, ap, subst, inl, inr, arith, ltb-true}
use Rattle.std.specs.List.{AllByRecursion}
use Rattle.std.proofs.lemmas.Bool.{ltb-false}
use Rattle.crs_base.specs.Entry.{Entry, entry_cmp}
use Rattle.crs_base.specs.Words.{IsIn, Ordered}
use Rattle.crs_base.proofs.Alls.{all_each}
use Rattle.crs_base.proofs.KeyOrder.{entry_total, less_by_date}
use Rattle.crs_base.proofs.Words.{in_append, in_append_left, in_append_right, in_filter, in_filter_back, in_from_each, ordered_filter, ordered_append}
use Rattle.crs_model.specs.Order.{dated_before}
use Rattle.crs_model.proofs.Settled.{of_settled, settled_of, settled_in_order}
use Rattle.crs_base.proofs.Unique.{same_members}
use Rattle.crs_layers.specs.Strata.{taken, with_given, AreNumberedFrom}

module _ {S : Type 0} where
  pub numbered_least : (n : ℕ) (xs : List (Entry S)) → AreNumberedFrom n xs → AllByRecursion (λ x. n ≤ x.arrival) xs
  numbered_least n [] h = tt
  numbered_least n (x ∷ xs) h = let e = h.0 in (omega arith, all_each {P = λ y. suc n ≤ y.arrival} xs (λ y k. omega arith) (numbered_least (suc n) xs h.1))

  pub numbered_distinct : (n : ℕ) (xs : List (Entry S)) → AreNumberedFrom n xs → Ordered (λ d e. d.arrival ≢ e.arrival) xs
  numbered_distinct n [] h = tt
  numbered_distinct n (x ∷ xs) h = let e = h.0 in (all_each {P = λ y. suc n ≤ y.arrival} xs (λ y k q. absurd (omega arith)) (numbered_least (suc n) xs h.1), numbered_distinct (suc n) xs h.1)

  pub numbered_taken : (limit n : ℕ) (given : List (Entry S)) → AreNumberedFrom n (taken limit n given)
  numbered_taken limit n [] = tt
  numbered_taken limit n (x ∷ xs) = by (nat_lt n limit) (subst (λ k. AreNumberedFrom k (taken limit (n + 1) xs)) (omega arith) (numbered_taken limit (n + 1) xs))
    where
      by : (b : Bool) → AreNumberedFrom (suc n) (taken limit (n + 1) xs) → AreNumberedFrom n (cond b (record x { arrival = n } ∷ taken limit (n + 1) xs) [])
      by true h = (refl, h)
      by false h = tt

  pub numbered_append : (n : ℕ) (xs ys : List (Entry S)) → AreNumberedFrom n xs → AreNumberedFrom (n + length xs) ys → AreNumberedFrom n (xs ++ ys)
  numbered_append n [] ys h k = subst (λ m. AreNumberedFrom m ys) (omega arith) k
  numbered_append n (x ∷ xs) ys h k = (h.0, numbered_append (suc n) xs ys h.1 (subst (λ m. AreNumberedFrom m ys) (omega arith) k))

  pub numbered_given : (limit : ℕ) (old given : List (Entry S)) → AreNumberedFrom 0 old → AreNumberedFrom 0 (with_given limit old given)
  numbered_given limit old given h = numbered_append 0 old (taken limit (length old) given) h (subst (λ m. AreNumberedFrom m (taken limit (length old) given)) (omega arith) (numbered_taken limit (length old) given))

  pub taken_due : (d limit n : ℕ) (given : List (Entry S)) → AllByRecursion (λ e. d ≤ e.date) given → AllByRecursion (λ e. d ≤ e.date) (taken limit n given)
  taken_due d limit n [] h = tt
  taken_due d limit n (x ∷ xs) h = by (nat_lt n limit) (taken_due d limit (n + 1) xs h.1)
    where
      by : (b : Bool) → AllByRecursion (λ e. d ≤ e.date) (taken limit (n + 1) xs) → AllByRecursion (λ e. d ≤ e.date) (cond b (record x { arrival = n } ∷ taken limit (n + 1) xs) [])
      by true k = (h.0, k)
      by false k = tt

  -- entries behind others, which are dated at or after g
  module _ (g h : ℕ) (old more : List (Entry S)) (later : g ≤ h) (due : AllByRecursion (λ e. g ≤ e.date) more) (numbered : AreNumberedFrom 0 old) (all_numbered : AreNumberedFrom 0 (old ++ more)) where
    -- those that are settled now, and weren't
    abbrev pub newly : List (Entry S)
    newly = filter (λ e. not (nat_lt e.date g)) (dated_before h (old ++ more))

    not_before : (b : Bool) (x : Entry S) → nat_lt x.date g ≡ b → not b ≡ true → g ≤ x.date
    not_before true x e k = absurd cc
    not_before false x e k = ltb-false x.date g e

    pub newly_late : (x : Entry S) → IsIn x newly → g ≤ x.date
    newly_late x i = not_before (nat_lt x.date g) x refl (in_filter_back (λ e. not (nat_lt e.date g)) (dated_before h (old ++ more)) x i).1

    on : (x : Entry S) → IsIn x (dated_before g old ++ newly) → IsIn x (dated_before h (old ++ more))
    on x i = elim (in_append (dated_before g old) newly x i) [
      | inl k ↦ let s = of_settled entry_total g old x k in let l = s.1 in settled_of entry_total h (old ++ more) x (in_append_left old more x s.0) (omega arith)
      | inr k ↦ (in_filter_back (λ e. not (nat_lt e.date g)) (dated_before h (old ++ more)) x k).0
    ]

    back : (x : Entry S) → IsIn x (dated_before h (old ++ more)) → IsIn x (dated_before g old ++ newly)
    back x i = by (nat_lt x.date g) refl
      where
        by : (b : Bool) → nat_lt x.date g ≡ b → IsIn x (dated_before g old ++ newly)
        by false e = in_append_right (dated_before g old) newly x (in_filter (λ e. not (nat_lt e.date g)) (dated_before h (old ++ more)) x i (ap not e))
        by true e =
            let l : x.date < g = ltb-true x.date g e in
            elim (in_append old more x (of_settled entry_total h (old ++ more) x i).0) [
              | inl k ↦ in_append_left (dated_before g old) newly x (settled_of entry_total g old x k l)
              | inr k ↦ let m = in_from_each (λ e. g ≤ e.date) more due x k in absurd (omega arith)
            ]

    pub settled_split : dated_before h (old ++ more) ≡ dated_before g old ++ newly
    settled_split = sym (same_members entry_total (dated_before g old ++ newly) (dated_before h (old ++ more))
        (ordered_append (λ a b. entry_cmp a b ≡ Less) (dated_before g old) newly (settled_in_order entry_total g old (numbered_distinct 0 old numbered))
        (ordered_filter (λ a b. entry_cmp a b ≡ Less) (λ e. not (nat_lt e.date g)) (dated_before h (old ++ more)) (settled_in_order entry_total h (old ++ more) (numbered_distinct 0 (old ++ more) all_numbered)))
        (λ x y i j. let a = (of_settled entry_total g old x i).1 in let b = newly_late y j in less_by_date x y (omega arith)))
        (settled_in_order entry_total h (old ++ more) (numbered_distinct 0 (old ++ more) all_numbered)) on back)
