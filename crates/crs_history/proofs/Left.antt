-- Lists of which some items are left: those of which something holds, or all but some.
use Rattle.std.proofs.Common.{◌≤◌, ◌<◌, List, [], ◌∷◌, ◌++◌, length, refl, sym, ap, subst, inl, inr, arith, ◌⊎◌}
use Rattle.crs_base.specs.Words.{IsIn, Ordered}
use Rattle.crs_base.specs.Sifted.{Sifts}
use Rattle.crs_base.proofs.Words.{each_from_in, in_from_each}
use Rattle.crs_history.specs.Dropping.{Drops}

module _ {A : Type 0} where
  pub sifts_all : (P : A → Type 0) (xs : List A) → ((x : A) → IsIn x xs → P x) → Sifts P xs xs
  sifts_all P [] h = refl
  sifts_all P (x ∷ xs) h = inl (h x (inl refl), xs, refl, sifts_all P xs (λ y i. h y (inr i)))

  -- those of K, of all and of those of P
  pub sifts_both : (P K : A → Type 0) (xs ys us vs : List A) → Sifts P xs ys → Sifts K xs us → Sifts K ys vs → Sifts P us vs
  sifts_both P K [] ys us vs p k l = subst (λ (w : List A). Sifts P w vs) (sym k) (subst (λ (w : List A). Sifts K w vs) p l)
  sifts_both P K (x ∷ xs) ys us vs (inl p) (inl k) l = elim (subst (λ (w : List A). Sifts K w vs) p.2 l) [
    | inl m ↦ subst (λ (w : List A). Sifts P w vs) (sym k.2) (inl (p.0, m.1, m.2, sifts_both P K xs p.1 k.1 m.1 p.3 k.3 m.3))
    | inr m ↦ absurd (m.0 k.0)
  ]
  sifts_both P K (x ∷ xs) ys us vs (inl p) (inr k) l = elim (subst (λ (w : List A). Sifts K w vs) p.2 l) [
    | inl m ↦ absurd (k.0 m.0)
    | inr m ↦ sifts_both P K xs p.1 us vs p.3 k.1 m.1
  ]
  sifts_both P K (x ∷ xs) ys us vs (inr p) (inl k) l = subst (λ (w : List A). Sifts P w vs) (sym k.2) (inr (p.0, sifts_both P K xs ys k.1 vs p.1 k.3 l))
  sifts_both P K (x ∷ xs) ys us vs (inr p) (inr k) l = sifts_both P K xs ys us vs p.1 k.1 l

  pub sifts_without : (P : A → Type 0) (xs : List A) (y : A) (ys us : List A) → (P y → ⊥) → Sifts P (xs ++ y ∷ ys) us → Sifts P (xs ++ ys) us
  sifts_without P [] y ys us f (inl h) = absurd (f h.0)
  sifts_without P [] y ys us f (inr h) = h.1
  sifts_without P (x ∷ xs) y ys us f (inl h) = inl (h.0, h.1, h.2, sifts_without P xs y ys h.1 f h.3)
  sifts_without P (x ∷ xs) y ys us f (inr h) = inr (h.0, sifts_without P xs y ys us f h.1)

  pub sifts_short : (P : A → Type 0) (xs ys : List A) → Sifts P xs ys → length ys ≤ length xs
  sifts_short P [] ys h = let e = ap length h in omega arith
  sifts_short P (x ∷ xs) ys (inl h) = let e = ap length h.2 in let l = sifts_short P xs h.1 h.3 in omega arith
  sifts_short P (x ∷ xs) ys (inr h) = let l = sifts_short P xs ys h.1 in omega arith

  pub sifts_less : (P : A → Type 0) (xs ys : List A) (y : A) → Sifts P xs ys → IsIn y xs → (P y → ⊥) → length ys < length xs
  sifts_less P [] ys y h i f = absurd i
  sifts_less P (x ∷ xs) ys y (inl h) (inl e) f = absurd (f (subst P (sym e) h.0))
  sifts_less P (x ∷ xs) ys y (inl h) (inr i) f = let e = ap length h.2 in let l = sifts_less P xs h.1 y h.3 i f in omega arith
  sifts_less P (x ∷ xs) ys y (inr h) i f = let l = sifts_short P xs ys h.1 in omega arith

  pub drops_none : (P : A → Type 0) (xs : List A) → Drops P xs xs
  drops_none P [] = refl
  drops_none P (x ∷ xs) = inl (xs, refl, drops_none P xs)

  pub drops_one : (P : A → Type 0) (xs : List A) (y : A) (ys : List A) → P y → Drops P (xs ++ y ∷ ys) (xs ++ ys)
  drops_one P [] y ys p = inr (p, drops_none P ys)
  drops_one P (x ∷ xs) y ys p = inl (xs ++ ys, refl, drops_one P xs y ys p)

  pub drops_in : (P : A → Type 0) (xs ys : List A) (x : A) → Drops P xs ys → IsIn x ys → IsIn x xs
  drops_in P [] ys x h i = subst (IsIn x) h i
  drops_in P (y ∷ xs) ys x (inl h) i = elim (subst (IsIn x) h.1 i) [ inl e ↦ inl e | inr j ↦ inr (drops_in P xs h.0 x h.2 j) ]
  drops_in P (y ∷ xs) ys x (inr h) i = inr (drops_in P xs ys x h.1 i)

  pub drops_left : (P : A → Type 0) (xs ys : List A) (x : A) → Drops P xs ys → IsIn x xs → IsIn x ys ⊎ P x
  drops_left P [] ys x h i = absurd i
  drops_left P (y ∷ xs) ys x (inl h) (inl e) = inl (subst (IsIn x) (sym h.1) (inl e))
  drops_left P (y ∷ xs) ys x (inl h) (inr i) = elim (drops_left P xs h.0 x h.2 i) [ inl j ↦ inl (subst (IsIn x) (sym h.1) (inr j)) | inr p ↦ inr p ]
  drops_left P (y ∷ xs) ys x (inr h) (inl e) = inr (subst P (sym e) h.0)
  drops_left P (y ∷ xs) ys x (inr h) (inr i) = drops_left P xs ys x h.1 i

  pub drops_append : (P : A → Type 0) (xs ys zs : List A) → Drops P xs ys → Drops P (xs ++ zs) (ys ++ zs)
  drops_append P [] ys zs h = subst (λ (w : List A). Drops P zs (w ++ zs)) (sym h) (drops_none P zs)
  drops_append P (x ∷ xs) ys zs (inl h) = inl (h.0 ++ zs, ap (λ w. w ++ zs) h.1, drops_append P xs h.0 zs h.2)
  drops_append P (x ∷ xs) ys zs (inr h) = inr (h.0, drops_append P xs ys zs h.1)

  pub drops_weaker : (P Q : A → Type 0) (xs ys : List A) → ((x : A) → P x → Q x) → Drops P xs ys → Drops Q xs ys
  drops_weaker P Q [] ys f h = h
  drops_weaker P Q (x ∷ xs) ys f (inl h) = inl (h.0, h.1, drops_weaker P Q xs h.0 f h.2)
  drops_weaker P Q (x ∷ xs) ys f (inr h) = inr (f x h.0, drops_weaker P Q xs ys f h.1)

  -- what is dropped of what is left is dropped of all
  pub drops_on : (P : A → Type 0) (xs ys zs : List A) → Drops P xs ys → Drops P ys zs → Drops P xs zs
  drops_on P [] ys zs h k = subst (λ (w : List A). Drops P w zs) h k
  drops_on P (x ∷ xs) ys zs (inl h) k = elim (subst (λ (w : List A). Drops P w zs) h.1 k) [
    | inl m ↦ inl (m.0, m.1, drops_on P xs h.0 m.0 h.2 m.2)
    | inr m ↦ inr (m.0, drops_on P xs h.0 zs h.2 m.1)
  ]
  drops_on P (x ∷ xs) ys zs (inr h) k = inr (h.0, drops_on P xs ys zs h.1 k)

  -- what is left is sifted, where Q holds of it and of nothing that was dropped
  pub drops_sifts : (P Q : A → Type 0) (xs ys : List A) → ((x : A) → IsIn x xs → P x → Q x → ⊥) → ((y : A) → IsIn y ys → Q y) → Drops P xs ys → Sifts Q xs ys
  drops_sifts P Q [] ys f g h = h
  drops_sifts P Q (x ∷ xs) ys f g (inl h) =
      inl (g x (subst (IsIn x) (sym h.1) (inl refl)), h.0, h.1, drops_sifts P Q xs h.0 (λ z i. f z (inr i)) (λ z i. g z (subst (IsIn z) (sym h.1) (inr i))) h.2)
  drops_sifts P Q (x ∷ xs) ys f g (inr h) = inr (f x (inl refl) h.0, drops_sifts P Q xs ys (λ z i. f z (inr i)) g h.1)

  pub in_more : (xs : List A) (y : A) (ys : List A) (z : A) → IsIn z (xs ++ ys) → IsIn z (xs ++ y ∷ ys)
  in_more [] y ys z i = inr i
  in_more (x ∷ xs) y ys z (inl e) = inl e
  in_more (x ∷ xs) y ys z (inr i) = inr (in_more xs y ys z i)

  pub ordered_without : (R : A → A → Type 0) (xs : List A) (y : A) (ys : List A) → Ordered R (xs ++ y ∷ ys) → Ordered R (xs ++ ys)
  ordered_without R [] y ys h = h.1
  ordered_without R (x ∷ xs) y ys h = (each_from_in (R x) (xs ++ ys) (λ z i. in_from_each (R x) (xs ++ y ∷ ys) h.0 z (in_more xs y ys z i)), ordered_without R xs y ys h.1)

  -- what is in the front is related to what is behind
  pub ordered_across : (R : A → A → Type 0) (xs ys : List A) (x y : A) → Ordered R (xs ++ ys) → IsIn x xs → IsIn y ys → R x y
  ordered_across R [] ys x y h i j = absurd i
  ordered_across R (z ∷ xs) ys x y h (inl e) j = subst (λ (w : A). R w y) (sym e) (in_from_each (R z) (xs ++ ys) h.0 y (in_behind xs ys y j))
    where
      in_behind : (xs ys : List A) (y : A) → IsIn y ys → IsIn y (xs ++ ys)
      in_behind [] ys y j = j
      in_behind (x ∷ xs) ys y j = inr (in_behind xs ys y j)
  ordered_across R (z ∷ xs) ys x y h (inr i) j = ordered_across R xs ys x y h.1 i j
