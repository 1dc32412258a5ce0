-- Date windows when one more date is given.
use Rattle.std.proofs.Common.{◌≡◌, ◌≢◌, ℕ, zero, suc, ◌<◌, ◌≤◌, inl, inr, refl, sym, ap, ◌∙◌, arith}
use Rattle.std.specs.Prelude.{ℤ, Option, Some, None}
use Rattle.std.proofs.lemmas.Int.{ints, clamps}
use Rattle.std.proofs.lemmas.Bool.{cases_lt}
use Rattle.std.proofs.lemmas.Bool.Decides.{eqb_tells}
use Rattle.crs_stn.specs.DateWindow.{given_also, latest, least_of, after, soonest, greater_of, greatest_of, before}
use Rattle.crs_stn.specs.Cycle.{lesser}

lesser_turns : (a b : Option ℤ) → lesser a b ≡ lesser b a
lesser_turns None None = refl
lesser_turns None (Some y) = refl
lesser_turns (Some x) None = refl
lesser_turns (Some x) (Some y) = ap Some (omega (arith, ints, clamps))

lesser_groups : (a b c : Option ℤ) → lesser a (lesser b c) ≡ lesser (lesser a b) c
lesser_groups None b c = refl
lesser_groups (Some x) None c = refl
lesser_groups (Some x) (Some y) None = refl
lesser_groups (Some x) (Some y) (Some z) = ap Some (omega (arith, ints, clamps))

greater_turns : (a b : Option ℤ) → greater_of a b ≡ greater_of b a
greater_turns None None = refl
greater_turns None (Some y) = refl
greater_turns (Some x) None = refl
greater_turns (Some x) (Some y) = ap Some (omega (arith, ints, clamps))

greater_groups : (a b c : Option ℤ) → greater_of a (greater_of b c) ≡ greater_of (greater_of a b) c
greater_groups None b c = refl
greater_groups (Some x) None c = refl
greater_groups (Some x) (Some y) None = refl
greater_groups (Some x) (Some y) (Some z) = ap Some (omega (arith, ints, clamps))

-- f is g but at e, where f is v and g is None
module _ (op : Option ℤ → Option ℤ → Option ℤ) (first : (a : Option ℤ) → op None a ≡ a) (turns : (a b : Option ℤ) → op a b ≡ op b a) (groups : (a b c : Option ℤ) → op a (op b c) ≡ op (op a b) c) (fold : (ℕ → Option ℤ) → ℕ → Option ℤ)
    (none : (f : ℕ → Option ℤ) → fold f 0 ≡ None) (more : (f : ℕ → Option ℤ) (n : ℕ) → fold f (suc n) ≡ op (f n) (fold f n)) (f g : ℕ → Option ℤ) (e : ℕ) (v : Option ℤ) (here : f e ≡ v) (free : g e ≡ None) (apart : (p : ℕ) → p ≢ e → f p ≡ g p) where
  below : (n : ℕ) → n ≤ e → fold f n ≡ fold g n
  below zero l = none f ∙ sym (none g)
  below (suc n) l = more f n ∙ ap (λ t. op t (fold f n)) (apart n (λ s. absurd (omega arith))) ∙ ap (op (g n)) (below n (omega arith)) ∙ sym (more g n)

  pub fold_more : (n : ℕ) → e < n → fold f n ≡ op (fold g n) v
  fold_more zero l = absurd (omega arith)
  fold_more (suc n) l = elim (cases_lt e n) [
    | inl b ↦ more f n ∙ ap (λ t. op t (fold f n)) (apart n (λ s. absurd (omega arith))) ∙ ap (op (g n)) (fold_more n b) ∙ groups (g n) (fold g n) v ∙ ap (λ t. op t v) (sym (more g n))
    | inr b ↦
        let s : n ≡ e = omega arith in
        more f n ∙ ap (λ t. op t (fold f n)) (ap f s ∙ here) ∙ ap (op v) (below n (omega arith)) ∙ turns v (fold g n)
        ∙ ap (λ t. op t v) (sym (more g n ∙ ap (λ t. op t (fold g n)) (ap g s ∙ free) ∙ first (fold g n)))
  ]

module _ (n : ℕ) (most : ℕ → ℕ → Option ℤ) (given : ℕ → Option ℤ) (e : ℕ) (d : ℤ) (free : given e ≡ None) (inside : e < n) where
  given_here : given_also given e d e ≡ Some d
  given_here = elim (eqb_tells e e) [ inl s ↦ rw s.0 refl | inr o ↦ absurd (o.1 refl) ]

  given_else : (p : ℕ) → p ≢ e → given_also given e d p ≡ given p
  given_else p h = elim (eqb_tells p e) [ inl s ↦ absurd (h s.1) | inr o ↦ rw o.0 refl ]

  pub latest_more : (r : ℕ) → latest n most (given_also given e d) r ≡ lesser (latest n most given r) (after (Some d) (most e r))
  latest_more r = fold_more lesser (λ a. refl) lesser_turns lesser_groups least_of (λ f. refl) (λ f n. refl)
      (λ p. after (given_also given e d p) (most p r)) (λ p. after (given p) (most p r)) e (after (Some d) (most e r))
      (ap (λ t. after t (most e r)) given_here) (ap (λ t. after t (most e r)) free) (λ p h. ap (λ t. after t (most p r)) (given_else p h)) n inside

  pub soonest_more : (r : ℕ) → soonest n most (given_also given e d) r ≡ greater_of (soonest n most given r) (before (Some d) (most r e))
  soonest_more r = fold_more greater_of (λ a. refl) greater_turns greater_groups greatest_of (λ f. refl) (λ f n. refl)
      (λ p. before (given_also given e d p) (most r p)) (λ p. before (given p) (most r p)) e (before (Some d) (most r e))
      (ap (λ t. before t (most r e)) given_here) (ap (λ t. before t (most r e)) free) (λ p h. ap (λ t. before t (most r p)) (given_else p h)) n inside
