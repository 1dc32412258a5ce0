-- The date windows of points, where some dates are given.
use Rattle.std.proofs.Common.{true, false, Bool, ◌≡◌, ℕ, zero, suc, ◌+◌, ◌<◌, ◌≤◌, inl, inr, List, refl, ap, arith}
use Rattle.std.specs.Prelude.{ℤ, ◌-ℤ◌, ◌≤ℤ◌, Option, Some, None, IfSome, IsTrue, unsigned_abs}
use Rattle.std.specs.Int.{int_max}
use Rattle.std.proofs.lemmas.Int.{ints, clamps}
use Rattle.std.proofs.lemmas.Bool.{cases_lt}
use Rattle.crs_stn.specs.declared.bound.Bound.{Bound}
use Rattle.crs_stn.specs.Bound.{Meets, Agrees, IsWithin, IsConsistent}
use Rattle.crs_stn.specs.Network.{IsMinimal, IsPairwiseWithin}
use Rattle.crs_stn.specs.DateWindow.{IsLatest, JointDemandHolds, latest}
use Rattle.crs_stn.proofs.Extend.{below_size}
use Rattle.crs_stn.proofs.Partial.{filled_late, extend_late, latest_all, latest_agrees, latest_reached, Meets-later, if_some}

-- ---- all at once

agrees_option : (o : Option ℤ) (x y : ℤ) → IfSome o (λ d. x ≡ d) → IfSome o (λ d. y ≡ d) → IfSome o (λ d. int_max x y ≡ d)
agrees_option None x y h k = tt
agrees_option (Some d) x y h k = omega (arith, ints, clamps)

le_max_left : (h x y : ℤ) → h ≤ℤ x → h ≤ℤ int_max x y
le_max_left h x y l = omega (arith, ints, clamps)

le_max_right : (h x y : ℤ) → h ≤ℤ y → h ≤ℤ int_max x y
le_max_right h x y l = omega (arith, ints, clamps)

pub joint_demand : JointDemandHolds
joint_demand bounds zero given asked h met each = (met.0, met.1, met.2, λ r l. absurd (omega arith))
joint_demand bounds (suc n) given asked h met each =
    let before = joint_demand bounds n given asked h met (λ r l a. each r (omega arith) a) in
    last (asked n) refl before
  where
    last : (b : Bool) → asked n ≡ b → (t : ℕ → ℤ) × Agrees given t × Meets bounds t × ((r : ℕ) → r < n → IsTrue (asked r) → h ≤ℤ t r) → (t : ℕ → ℤ) × Agrees given t × Meets bounds t × ((r : ℕ) → r < suc n → IsTrue (asked r) → h ≤ℤ t r)
    last false e before = (
      before.0,
      before.1,
      before.2,
      λ r l a. elim (cases_lt r n) [
        | inl low ↦ before.3 r low a
        | inr high ↦ let s : r ≡ n = omega arith in absurd (not_asked (asked r) (ap asked s) e a)
      ],
    )
      where
        not_asked : (b : Bool) → b ≡ asked n → asked n ≡ false → IsTrue b → ⊥
        not_asked true s e a = absurd cc
        not_asked false s e a = absurd cc
    last true e before =
        let own = each n (omega arith) e in (
          λ p. int_max (before.0 p) (own.0 p),
          λ p. agrees_option (given p) (before.0 p) (own.0 p) (before.1 p) (own.1 p),
          Meets-later bounds before.0 own.0 before.2 own.2,
          λ r l a. elim (cases_lt r n) [
            | inl low ↦ le_max_left h (before.0 r) (own.0 r) (before.3 r low a)
            | inr high ↦ let s : r ≡ n = omega arith in le_max_right h (before.0 r) (own.0 r) (rw s own.3)
          ],
        )

-- ---- one point

module _ (bounds : List Bound) (n : ℕ) (most : ℕ → ℕ → Option ℤ) (given : ℕ → Option ℤ) (within : IsWithin n bounds) (consistent : IsConsistent bounds) (min : IsMinimal bounds n most) (below : (p : ℕ) → IfSome (given p) (λ _. p < n)) (pairwise : IsPairwiseWithin most given) where
  moved : (r : ℕ) → (g : ℕ) × ((k : ℕ) → g ≤ k → Meets bounds (filled_late (latest n most given) consistent.0 k))
  moved r = extend_late (latest n most given) consistent.0 bounds consistent.1 (latest_all bounds n most given within consistent min below)

  agrees : (k : ℕ) → Agrees given (filled_late (latest n most given) consistent.0 k)
  agrees k p = if_some (given p) _ (λ x e. rw (latest_agrees bounds n most given within consistent min below pairwise p x e) refl)

  by_option : (r : ℕ) → r < n → (o : Option ℤ) → latest n most given r ≡ o → IsLatest bounds given r o
  by_option r l (Some d) e =
      let m = moved r in (
        λ t a met. latest_reached bounds n most given within consistent min below r l d e t a met,
        filled_late (latest n most given) consistent.0 m.0,
        agrees m.0,
        m.1 m.0 (omega arith),
        rw e refl,
      )
  by_option r l None e = λ h.
      let m = moved r in
      let g = m.0 + unsigned_abs (h -ℤ consistent.0 r) in
      let s = below_size (h -ℤ consistent.0 r) in
      (filled_late (latest n most given) consistent.0 g, agrees g, m.1 g (omega arith), rw e (omega (arith, ints, s)))

  -- the least of the given dates with the least bounds from them is the greatest date of a point
  pub IsLatest-latest : (r : ℕ) → r < n → IsLatest bounds given r (latest n most given r)
  IsLatest-latest r l = by_option r l (latest n most given r) refl
