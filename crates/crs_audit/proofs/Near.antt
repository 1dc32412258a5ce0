-- Dates in an array: one of them changes, and none is far from 0.
use Rattle.std.proofs.Common.{◌≡◌, ◌≢◌, ◌∙◌, ◌<◌, ◌≤◌, ℕ, ◌+◌, ◌*◌, ◌^◌, zero, suc, List, length, refl, sym, ap, subst, arith, ◌⊎◌, inl, inr}
use Rattle.std.specs.Prelude.{ℤ, pos, ◌+ℤ◌, ◌-ℤ◌, ◌≤ℤ◌, Option, Some, None, IfSome, slice_set}
use Rattle.std.proofs.lemmas.Int.{ints}
use Rattle.std.proofs.lemmas.List.{get_or-set_same, get_or-set_other}
use Rattle.crs_audit.specs.Rounds.{date_in, IsNear, AreNear}

pub set_here : (l : List (Option ℤ)) (i : ℕ) (o : Option ℤ) → i < length l → date_in (slice_set l i o) i ≡ o
set_here l i o lt = get_or-set_same l i o None lt

pub set_there : (l : List (Option ℤ)) (i : ℕ) (o : Option ℤ) (p : ℕ) → p ≢ i → date_in (slice_set l i o) p ≡ date_in l p
set_there l i o p n = get_or-set_other l i p o None n

pub decided : (p q : ℕ) → (p ≡ q) ⊎ (p ≢ q)
decided zero zero = inl refl
decided zero (suc q) = inr (λ e. absurd cc)
decided (suc p) zero = inr (λ e. absurd cc)
decided (suc p) (suc q) = elim (decided p q) [ inl e ↦ inl (ap suc e) | inr n ↦ inr (λ e. n (let k : p ≡ q = cc in k)) ]

pub near_of : (o : Option ℤ) (k : ℕ) (d : ℤ) → o ≡ Some d → IfSome o (IsNear k) → IsNear k d
near_of o k d e h = subst (λ (o : Option ℤ). IfSome o (IsNear k)) e h

pub near_less : (k : ℕ) (u m : ℤ) → IsNear (k + 1) u → m ≤ℤ pos (2 ^ 40) → pos 0 ≤ℤ (m +ℤ pos (2 ^ 40)) → IsNear (k + 2) (u -ℤ m)
near_less k u m n a b =
    let high : u ≤ℤ pos ((k + 1) * 2 ^ 40) = n.not_above in
    let low : pos 0 ≤ℤ (u +ℤ pos ((k + 1) * 2 ^ 40)) = n.not_below in
    record { not_above = omega (arith, ints, high, low, a, b); not_below = omega (arith, ints, high, low, a, b) }

near_some : (o : Option ℤ) (k : ℕ) (d : ℤ) → o ≡ Some d → IsNear k d → IfSome o (IsNear k)
near_some o k d e h = subst (λ (o : Option ℤ). IfSome o (IsNear k)) (sym e) h

pub near_set : (k : ℕ) (l : List (Option ℤ)) (i : ℕ) (d : ℤ) → i < length l → AreNear k l → IsNear k d → AreNear k (slice_set l i (Some d))
near_set k l i d lt a h p = elim (decided p i) [
  | inl e ↦ near_some (date_in (slice_set l i (Some d)) p) k d (ap (date_in (slice_set l i (Some d))) e ∙ set_here l i (Some d) lt) h
  | inr n ↦ subst (λ (o : Option ℤ). IfSome o (IsNear k)) (sym (set_there l i (Some d) p n)) (a p)
]

near_up : (o : Option ℤ) (k m : ℕ) → k ≤ m → IfSome o (IsNear k) → IfSome o (IsNear m)
near_up None k m le h = tt
near_up (Some d) k m le h =
    let high : d ≤ℤ pos (k * 2 ^ 40) = h.not_above in
    let low : pos 0 ≤ℤ (d +ℤ pos (k * 2 ^ 40)) = h.not_below in
    record { not_above = omega (arith, ints, high, low, le); not_below = omega (arith, ints, high, low, le) }

pub all_near_up : (k m : ℕ) (l : List (Option ℤ)) → k ≤ m → AreNear k l → AreNear m l
all_near_up k m l le a p = near_up (date_in l p) k m le (a p)
