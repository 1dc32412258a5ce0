-- Those that are there, of a list of places.
use Rattle.std.proofs.Common.{◌≡◌, ◌≢◌, ℕ, zero, suc, ◌<◌, ◌≤◌, List, [], ◌∷◌, ◌++◌, length, refl, sym, ap, inl, inr, arith}
use Rattle.std.specs.Prelude.{Option, Some, None, slice_set, slice_index_or}
use Rattle.crs_base.specs.Words.{IsIn}
use Rattle.crs_living.specs.Slots.{members}

module _ {A : Type 0} where
  abbrev pub At : List (Option A) → ℕ → Option A
  At xs p = slice_index_or xs p None

  pub members_few : (xs : List (Option A)) → length (members xs) ≤ length xs
  members_few [] = omega arith
  members_few (None ∷ xs) = let h = members_few xs in omega arith
  members_few (Some x ∷ xs) = let h = members_few xs in omega arith

  pub at_within : (xs : List (Option A)) (p : ℕ) (x : A) → At xs p ≡ Some x → p < length xs
  at_within [] p x e = absurd cc
  at_within (y ∷ xs) zero x e = omega arith
  at_within (y ∷ xs) (suc p) x e = let h = at_within xs p x e in omega arith

  pub at_member : (xs : List (Option A)) (p : ℕ) (x : A) → At xs p ≡ Some x → IsIn x (members xs)
  at_member [] p x e = absurd cc
  at_member (None ∷ xs) zero x e = absurd cc
  at_member (Some y ∷ xs) zero x e = inl (cc)
  at_member (None ∷ xs) (suc p) x e = at_member xs p x e
  at_member (Some y ∷ xs) (suc p) x e = inr (at_member xs p x e)

  pub member_at : (xs : List (Option A)) (x : A) → IsIn x (members xs) → (p : ℕ) × (At xs p ≡ Some x)
  member_at [] x i = absurd i
  member_at (None ∷ xs) x i = let r = member_at xs x i in (suc r.0, r.1)
  member_at (Some y ∷ xs) x (inl e) = (0, ap Some (sym e))
  member_at (Some y ∷ xs) x (inr i) = let r = member_at xs x i in (suc r.0, r.1)

  pub set_same : (xs : List (Option A)) (p : ℕ) (o : Option A) → p < length xs → At (slice_set xs p o) p ≡ o
  set_same [] p o l = absurd (omega arith)
  set_same (x ∷ xs) zero o l = refl
  set_same (x ∷ xs) (suc p) o l = set_same xs p o (omega arith)

  pub set_other : (xs : List (Option A)) (p q : ℕ) (o : Option A) → q ≢ p → At (slice_set xs p o) q ≡ At xs q
  set_other [] p q o n = refl
  set_other (x ∷ xs) zero zero o n = absurd (n refl)
  set_other (x ∷ xs) zero (suc q) o n = refl
  set_other (x ∷ xs) (suc p) zero o n = refl
  set_other (x ∷ xs) (suc p) (suc q) o n = set_other xs p q o (λ e. n (ap suc e))

  -- one that comes
  pub comes : (xs : List (Option A)) (p : ℕ) (x : A) → p < length xs → At xs p ≡ None → (us : List A) × (vs : List A) × (members xs ≡ us ++ vs) × (members (slice_set xs p (Some x)) ≡ us ++ x ∷ vs)
  comes [] p x l e = absurd (omega arith)
  comes (None ∷ xs) zero x l e = ([], members xs, refl, refl)
  comes (Some y ∷ xs) zero x l e = absurd cc
  comes (None ∷ xs) (suc p) x l e = comes xs p x (omega arith) e
  comes (Some y ∷ xs) (suc p) x l e = let r = comes xs p x (omega arith) e in (y ∷ r.0, r.1, ap (λ (t : List A). y ∷ t) r.2, ap (λ (t : List A). y ∷ t) r.3)

  -- one that goes
  pub goes : (xs : List (Option A)) (p : ℕ) (x : A) → At xs p ≡ Some x → length (members xs) ≡ suc (length (members (slice_set xs p None)))
  goes [] p x e = absurd cc
  goes (None ∷ xs) zero x e = absurd cc
  goes (Some y ∷ xs) zero x e = refl
  goes (None ∷ xs) (suc p) x e = goes xs p x e
  goes (Some y ∷ xs) (suc p) x e = ap suc (goes xs p x e)

  -- one in the place of another
  pub stays : (xs : List (Option A)) (p : ℕ) (x y : A) → At xs p ≡ Some x → length (members (slice_set xs p (Some y))) ≡ length (members xs)
  stays [] p x y e = absurd cc
  stays (None ∷ xs) zero x y e = absurd cc
  stays (Some z ∷ xs) zero x y e = refl
  stays (None ∷ xs) (suc p) x y e = stays xs p x y e
  stays (Some z ∷ xs) (suc p) x y e = ap suc (stays xs p x y e)

  -- none in the place of none
  pub set_none : (xs : List (Option A)) (p : ℕ) → At xs p ≡ None → members (slice_set xs p None) ≡ members xs
  set_none [] p e = refl
  set_none (None ∷ xs) zero e = refl
  set_none (Some z ∷ xs) zero e = absurd cc
  set_none (None ∷ xs) (suc p) e = set_none xs p e
  set_none (Some z ∷ xs) (suc p) e = ap (λ (t : List A). z ∷ t) (set_none xs p e)
