-- To which events an entry is given.
use Rattle.std.proofs.Common.{◌≡◌, ◌≢◌, ℕ, zero, suc, ◌<◌, List, [], ◌∷◌, ◌++◌, length, ap, subst, ◌∙◌, inl, inr, ◌⊎◌, arith}
use Rattle.std.specs.Prelude.{Some}
use Rattle.std.proofs.lemmas.Bool.{cases_lt}
use Rattle.crs_base.specs.Words.{IsIn}
use Rattle.crs_base.proofs.Words.{in_append}
use Rattle.crs_base.specs.Entry.{Entry}
use Rattle.crs_model.specs.Partial.{Partial, at, GivesNoneTwice}
use Rattle.crs_model.proofs.Options.{of_some, cases_of}
use Rattle.crs_model.proofs.Parts.{at_within}

module _ {S : Type 0} where
  -- x is given to some event, or each given entry was in the pool before
  pub given_or_new : (pool : List (Entry S)) (x : Entry S) (a : Partial S)
      → ((e : ℕ) (y : Entry S) → at a e ≡ Some y → IsIn y (pool ++ x ∷ []))
      → ((e : ℕ) × (at a e ≡ Some x)) ⊎ ((e : ℕ) (y : Entry S) → at a e ≡ Some y → IsIn y pool)
  given_or_new pool x a given = elim (below (length a)) [ inl f ↦ inl f | inr h ↦ inr (λ e y i. h e y (at_within a e y i) i) ]
    where
      below : (k : ℕ) → ((e : ℕ) × (at a e ≡ Some x)) ⊎ ((e : ℕ) (y : Entry S) → e < k → at a e ≡ Some y → IsIn y pool)
      below zero = inr (λ e y l i. absurd (omega arith))
      below (suc m) = elim (below m) [
        | inl f ↦ inl f
        | inr h ↦ elim (cases_of (at a m)) [
          | inl none ↦ inr (λ e y l i. elim (cases_lt e m) [ inl b ↦ h e y b i | inr b ↦ let s : e ≡ m = omega arith in let j : at a m ≡ Some y = subst (λ (t : ℕ). at a t ≡ Some y) s i in absurd (cc) ])
          | inr some ↦ elim (in_append pool (x ∷ []) some.0 (given m some.0 some.1)) [
            | inl old ↦ inr (λ e y l i. elim (cases_lt e m) [
              | inl b ↦ h e y b i
              | inr b ↦
                  let s : e ≡ m = omega arith in
                  let j : at a m ≡ Some y = subst (λ (t : ℕ). at a t ≡ Some y) s i in
                  let q = some.1 in
                  let z : some.0 ≡ y = cc in subst (λ (t : Entry S). IsIn t pool) z old
            ])
            | inr new ↦ elim new [ inl e ↦ inl (m, some.1 ∙ ap Some e) | inr never ↦ absurd never ]
          ]
        ]
      ]

  -- an entry is given to one event
  pub one_event : (a : Partial S) → GivesNoneTwice a → (e f : ℕ) (x y : Entry S) → at a e ≡ Some x → at a f ≡ Some y → (e ≢ f)
      → x.arrival ≢ y.arrival
  one_event a apart e f x y i j n = of_some (at a f) y (λ w. x.arrival ≢ w.arrival) j (of_some (at a e) x _ i (apart e f n))
