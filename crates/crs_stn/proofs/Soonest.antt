-- The earliest dates of points, where some dates are given, and which dates one more point can have.
use Rattle.std.proofs.Common.{◌≡◌, ℕ, get_or, zero, suc, ◌+◌, ◌<◌, ◌⊎◌, inl, inr, List, refl, arith}
use Rattle.std.specs.Prelude.{ℤ, pos, ◌+ℤ◌, ◌-ℤ◌, ◌≤ℤ◌, Option, Some, None, IfSome, IsSomeAnd, All, unsigned_abs}
use Rattle.std.specs.Int.{int_max}
use Rattle.std.proofs.lemmas.Int.{ints, clamps, by_lt_z}
use Rattle.std.proofs.lemmas.Bool.{cases_lt}
use Rattle.std.proofs.lemmas.Bool.Decides.{eqb_tells}
use Rattle.crs_stn.specs.declared.bound.Bound.{Bound}
use Rattle.crs_stn.specs.Bound.{Meets, Agrees, IsWithin, IsConsistent}
use Rattle.crs_stn.specs.Lower.{Held}
use Rattle.crs_stn.specs.Network.{IsMinimal, IsPairwiseWithin}
use Rattle.crs_stn.specs.DateWindow.{IsSoonest, given_also, DateWindowsAreExact, latest}
use Rattle.crs_stn.specs.DateWindow.{greater_of, greatest_of, before, soonest}
use Rattle.crs_stn.proofs.Extend.{below_size, filled, extend_early}
use Rattle.crs_stn.proofs.Most.{IsMost-self_option, triangle_option}
use Rattle.crs_stn.proofs.DateWindow.{IsLatest-latest}
use Rattle.crs_stn.proofs.Earliest.{upper_option, step_of}
use Rattle.crs_stn.proofs.Partial.{latest_below, if_some, and_then, some_and}
use Rattle.crs_stn.proofs.LowerLemmas.{of_option}

greater_left : (a b : Option ℤ) (x : ℤ) → a ≡ Some x → IsSomeAnd (greater_of a b) (λ v. x ≤ℤ v)
greater_left None b x e = absurd cc
greater_left (Some y) None x e = let f : y ≡ x = cc in omega (arith, ints, f)
greater_left (Some y) (Some z) x e = let f : y ≡ x = cc in omega (arith, ints, clamps, f)

greater_right : (a b : Option ℤ) (x : ℤ) → IsSomeAnd b (λ v. x ≤ℤ v) → IsSomeAnd (greater_of a b) (λ v. x ≤ℤ v)
greater_right None b x h = h
greater_right (Some y) None x h = absurd h
greater_right (Some y) (Some z) x h = omega (arith, ints, clamps)

max_cases : (x y : ℤ) → (int_max x y ≡ x) ⊎ (int_max x y ≡ y)
max_cases x y = by_lt_z x y (λ l. inr (omega (arith, ints, clamps))) (λ l. inl (omega (arith, ints, clamps)))

greater_cases : (a b : Option ℤ) (v : ℤ) → greater_of a b ≡ Some v → (a ≡ Some v) ⊎ (b ≡ Some v)
greater_cases None b v e = inr e
greater_cases (Some x) None v e = inl e
greater_cases (Some x) (Some y) v e = elim (max_cases x y) [ inl a ↦ inl (cc) | inr a ↦ inr (cc) ]

greatest_of_is_above : (f : ℕ → Option ℤ) (n p : ℕ) (x : ℤ) → p < n → f p ≡ Some x → IsSomeAnd (greatest_of f n) (λ v. x ≤ℤ v)
greatest_of_is_above f zero p x l e = absurd (omega arith)
greatest_of_is_above f (suc n) p x l e = elim (cases_lt p n) [
  | inl below ↦ greater_right (f n) (greatest_of f n) x (greatest_of_is_above f n p x below e)
  | inr same ↦ let s : n ≡ p = omega arith in greater_left (f n) (greatest_of f n) x (rw s e)
]

greatest_of_is_reached : (f : ℕ → Option ℤ) (n : ℕ) (v : ℤ) → greatest_of f n ≡ Some v → (p : ℕ) × (p < n) × (f p ≡ Some v)
greatest_of_is_reached f zero v e = absurd cc
greatest_of_is_reached f (suc n) v e = elim (greater_cases (f n) (greatest_of f n) v e) [
  | inl here ↦ (n, omega arith, here)
  | inr before ↦ let r = greatest_of_is_reached f n v before in (r.0, omega arith, r.2)
]

before_parts : (o a : Option ℤ) (v : ℤ) → before o a ≡ Some v → (x b : ℤ) × (o ≡ Some x) × (a ≡ Some b) × (v ≡ x -ℤ b)
before_parts None a v e = absurd cc
before_parts (Some x) None v e = absurd cc
before_parts (Some x) (Some b) v e = (x, b, refl, refl, cc)

module _ (bounds : List Bound) (n : ℕ) (most : ℕ → ℕ → Option ℤ) (given : ℕ → Option ℤ) (within : IsWithin n bounds) (consistent : IsConsistent bounds) (min : IsMinimal bounds n most) (below : (p : ℕ) → IfSome (given p) (λ _. p < n)) where
  pub soonest_above : (p r : ℕ) (x b : ℤ) → given p ≡ Some x → most r p ≡ Some b → IsSomeAnd (soonest n most given r) (λ v. (x -ℤ b) ≤ℤ v)
  soonest_above p r x b is_given is_most =
      let l = of_option (given p) x (λ _. p < n) is_given (below p) in
      greatest_of_is_above (λ p. before (given p) (most r p)) n p (x -ℤ b) l (rw (is_given, is_most) refl)

  soonest_holds : (i j : ℕ) → i < n → j < n → (m : ℤ) → ((t : ℕ → ℤ) → Meets bounds t → t j ≤ℤ (t i +ℤ m)) → IfSome (soonest n most given j) (λ u. IsSomeAnd (soonest n most given i) (λ v. u ≤ℤ (v +ℤ m)))
  soonest_holds i j hi hj m step = if_some _ _ (λ u e.
      let r = greatest_of_is_reached (λ p. before (given p) (most j p)) n u e in
      let parts = before_parts _ _ u r.2 in
      let p = r.0 in
      let tri = of_option (most j p) parts.1 _ parts.3 (triangle_option bounds i j p m step (most j p) (most i p) (min j p hj r.1) (min i p hi r.1)) in
      let from_i = and_then (most i p) (λ y. y ≤ℤ (m +ℤ parts.1)) tri in
      let bv = and_then (soonest n most given i) (λ v. (parts.0 -ℤ from_i.0) ≤ℤ v) (soonest_above p i parts.0 from_i.0 parts.2 from_i.1) in
      some_and _ _ bv.0 bv.1 (omega (arith, ints, bv.2, from_i.2, parts.4)))

  soonest_all : All (Held (soonest n most given)) bounds
  soonest_all k d l =
      let b = within k d l in
      let bound = get_or bounds k d in
      if_some bound.most _ (λ m is. soonest_holds bound.from bound.to b.from_below b.to_below m (λ t met. step_of _ _ _ m is (met k d l)))

  soonest_agrees : IsPairwiseWithin most given → (p : ℕ) (x : ℤ) → given p ≡ Some x → soonest n most given p ≡ Some x
  soonest_agrees pairwise p x is_given =
      let l = of_option (given p) x (λ _. p < n) is_given (below p) in
      let self = IsMost-self_option bounds p (most p p) consistent (min p p l l) in
      let low = and_then (soonest n most given p) (λ v. (x -ℤ pos 0) ≤ℤ v) (soonest_above p p x (pos 0) is_given self) in
      let r = greatest_of_is_reached (λ q. before (given q) (most p q)) n low.0 low.1 in
      let parts = before_parts _ _ low.0 r.2 in
      let one = of_option (given p) x _ is_given (pairwise p r.0) in
      let two = of_option (given r.0) parts.0 _ parts.2 one in
      let three = of_option (most p r.0) parts.1 _ parts.3 two in
      let e : low.0 ≡ x = omega (arith, ints, low.2, three, parts.4) in
      rw (← e) low.1

  soonest_reached : (r : ℕ) → r < n → (d : ℤ) → soonest n most given r ≡ Some d → (t : ℕ → ℤ) → Agrees given t → Meets bounds t → d ≤ℤ t r
  soonest_reached r l d e t agrees met =
      let at = greatest_of_is_reached (λ p. before (given p) (most r p)) n d e in
      let parts = before_parts _ _ d at.2 in
      let up = of_option (most r at.0) parts.1 _ parts.3 (upper_option bounds r at.0 (most r at.0) (min r at.0 l at.1) t met) in
      let own = of_option (given at.0) parts.0 (λ d. t at.0 ≡ d) parts.2 (agrees at.0) in
      omega (arith, ints, up, own, parts.4)

  module _ (pairwise : IsPairwiseWithin most given) where
    agrees_early : (k : ℕ) → Agrees given (filled (soonest n most given) consistent.0 k)
    agrees_early k p = if_some (given p) _ (λ x e. rw (soonest_agrees pairwise p x e) refl)

    by_option : (r : ℕ) → r < n → (o : Option ℤ) → soonest n most given r ≡ o → IsSoonest bounds given r o
    by_option r l (Some d) e =
        let m = extend_early (soonest n most given) consistent.0 bounds consistent.1 soonest_all in (
          λ t a met. soonest_reached r l d e t a met,
          filled (soonest n most given) consistent.0 m.0,
          agrees_early m.0,
          m.1 m.0 (omega arith),
          rw e refl,
        )
    by_option r l None e = λ h.
        let m = extend_early (soonest n most given) consistent.0 bounds consistent.1 soonest_all in
        let g = m.0 + unsigned_abs (consistent.0 r -ℤ h) in
        let s = below_size (consistent.0 r -ℤ h) in
        (filled (soonest n most given) consistent.0 g, agrees_early g, m.1 g (omega arith), rw e (omega (arith, ints, s)))

    -- the greatest of the given dates less the least bounds to them is the least date of a point
    pub IsSoonest-soonest : (r : ℕ) → r < n → IsSoonest bounds given r (soonest n most given r)
    IsSoonest-soonest r l = by_option r l (soonest n most given r) refl

    -- one more date keeps to the bounds where it is in the date window of its point
    module _ (e : ℕ) (d : ℤ) (inside : e < n) (late : IfSome (latest n most given e) (λ v. d ≤ℤ v)) (soon : IfSome (soonest n most given e) (λ v. v ≤ℤ d)) where
      from_e : (q : ℕ) → IfSome (given q) (λ y. IfSome (most e q) (λ b. y ≤ℤ (d +ℤ b)))
      from_e q = if_some (given q) _ (λ y is. if_some (most e q) _ (λ b at.
          let v = and_then (soonest n most given e) (λ v. (y -ℤ b) ≤ℤ v) (soonest_above q e y b is at) in
          let w = of_option (soonest n most given e) v.0 (λ v. v ≤ℤ d) v.1 soon in
          omega (arith, ints, v.2, w)))

      to_e : (p : ℕ) → IfSome (given p) (λ x. IfSome (most p e) (λ b. d ≤ℤ (x +ℤ b)))
      to_e p = if_some (given p) _ (λ x is. if_some (most p e) _ (λ b at.
          let v = and_then (latest n most given e) (λ v. v ≤ℤ (x +ℤ b)) (latest_below bounds n most given within consistent min below p e x b is at) in
          let w = of_option (latest n most given e) v.0 (λ v. d ≤ℤ v) v.1 late in
          omega (arith, ints, v.2, w)))

      own_e : (p q : ℕ) → p ≡ e → q ≡ e → IfSome (most p q) (λ b. d ≤ℤ (d +ℤ b))
      own_e p q s t = rw (s, t, IsMost-self_option bounds e (most e e) consistent (min e e inside inside)) (omega (arith, ints))

      pub given_also_pairwise : IsPairwiseWithin most (given_also given e d)
      given_also_pairwise p q = elim (eqb_tells p e) [
        | inl a ↦ elim (eqb_tells q e) [
          | inl b ↦ rw (a.0, b.0) (own_e p q a.1 b.1)
          | inr b ↦ rw (a.0, b.0) (rw a.1 (from_e q))
        ]
        | inr a ↦ elim (eqb_tells q e) [
          | inl b ↦ rw (a.0, b.0) (rw b.1 (to_e p))
          | inr b ↦ rw (a.0, b.0) (pairwise p q)
        ]
      ]

pub date_windows_are_exact : DateWindowsAreExact
date_windows_are_exact bounds n most given within consistent min below pairwise r l =
    (IsLatest-latest bounds n most given within consistent min below pairwise r l, IsSoonest-soonest bounds n most given within consistent min below pairwise r l)
