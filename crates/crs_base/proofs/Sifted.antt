-- Lemmas on those items of a list of which something holds.
use Rattle.std.proofs.Common.{List, [], ◌∷◌, ◌++◌, refl, sym, ap, inl, inr, subst}
use Rattle.crs_base.specs.Words.{IsIn, Ordered}
use Rattle.crs_base.specs.Sifted.{Sifts}
use Rattle.crs_base.proofs.Words.{each_from_in, in_from_each}

module _ {A : Type 0} where
  pub sifts_append : (P : A → Type 0) (xs us ys vs : List A) → Sifts P xs us → Sifts P ys vs → Sifts P (xs ++ ys) (us ++ vs)
  sifts_append P [] us ys vs h k = subst (λ (w : List A). Sifts P ys (w ++ vs)) (sym h) k
  sifts_append P (x ∷ xs) us ys vs (inl h) k = inl (h.0, h.1 ++ vs, ap (λ w. w ++ vs) h.2, sifts_append P xs h.1 ys vs h.3 k)
  sifts_append P (x ∷ xs) us ys vs (inr h) k = inr (h.0, sifts_append P xs us ys vs h.1 k)

  -- what else holds of the same items gives the same
  pub sifts_iff : (P Q : A → Type 0) (xs ys : List A) → ((x : A) → IsIn x xs → P x → Q x) → ((x : A) → IsIn x xs → Q x → P x) → Sifts P xs ys → Sifts Q xs ys
  sifts_iff P Q [] ys to from h = h
  sifts_iff P Q (x ∷ xs) ys to from (inl h) = inl (to x (inl refl) h.0, h.1, h.2, sifts_iff P Q xs h.1 (λ z i. to z (inr i)) (λ z i. from z (inr i)) h.3)
  sifts_iff P Q (x ∷ xs) ys to from (inr h) = inr (λ q. h.0 (from x (inl refl) q), sifts_iff P Q xs ys (λ z i. to z (inr i)) (λ z i. from z (inr i)) h.1)

  -- those of which Q holds, of those of which P holds
  pub sifts_twice : (P Q R : A → Type 0) (xs ys zs : List A) → ((x : A) → IsIn x xs → P x → Q x → R x) → ((x : A) → IsIn x xs → R x → P x × Q x)
      → Sifts P xs ys → Sifts Q ys zs → Sifts R xs zs
  sifts_twice P Q R [] ys zs to from h k = subst (λ (w : List A). Sifts Q w zs) h k
  sifts_twice P Q R (x ∷ xs) ys zs to from (inl h) k =
      elim (subst (λ (w : List A). Sifts Q w zs) h.2 k) [
        | inl m ↦ inl (to x (inl refl) h.0 m.0, m.1, m.2, sifts_twice P Q R xs h.1 m.1 (λ z i. to z (inr i)) (λ z i. from z (inr i)) h.3 m.3)
        | inr m ↦ inr (λ r. m.0 ((from x (inl refl) r).1), sifts_twice P Q R xs h.1 zs (λ z i. to z (inr i)) (λ z i. from z (inr i)) h.3 m.1)
      ]
  sifts_twice P Q R (x ∷ xs) ys zs to from (inr h) k =
      inr (λ r. h.0 ((from x (inl refl) r).0), sifts_twice P Q R xs ys zs (λ z i. to z (inr i)) (λ z i. from z (inr i)) h.1 k)

  pub sifted_in : (P : A → Type 0) (xs ys : List A) (x : A) → Sifts P xs ys → IsIn x ys → IsIn x xs × P x
  sifted_in P [] ys x h i = absurd (subst (λ (w : List A). IsIn x w) h i)
  sifted_in P (y ∷ xs) ys x (inl h) i =
      elim (subst (λ (w : List A). IsIn x w) h.2 i) [
        | inl e ↦ (inl e, subst P (sym e) h.0)
        | inr j ↦ let m = sifted_in P xs h.1 x h.3 j in (inr m.0, m.1)
      ]
  sifted_in P (y ∷ xs) ys x (inr h) i = let m = sifted_in P xs ys x h.1 i in (inr m.0, m.1)

  pub in_sifted : (P : A → Type 0) (xs ys : List A) (x : A) → Sifts P xs ys → IsIn x xs → P x → IsIn x ys
  in_sifted P [] ys x h i p = absurd i
  in_sifted P (y ∷ xs) ys x (inl h) (inl e) p = subst (λ (w : List A). IsIn x w) (sym h.2) (inl e)
  in_sifted P (y ∷ xs) ys x (inl h) (inr i) p = subst (λ (w : List A). IsIn x w) (sym h.2) (inr (in_sifted P xs h.1 x h.3 i p))
  in_sifted P (y ∷ xs) ys x (inr h) (inl e) p = absurd (h.0 (subst P e p))
  in_sifted P (y ∷ xs) ys x (inr h) (inr i) p = in_sifted P xs ys x h.1 i p

  -- what is sifted keeps the order
  pub sifts_ordered : (P : A → Type 0) (R : A → A → Type 0) (xs ys : List A) → Sifts P xs ys → Ordered R xs → Ordered R ys
  sifts_ordered P R [] ys h o = subst (Ordered R) (sym h) tt
  sifts_ordered P R (x ∷ xs) ys (inl h) o =
      subst (Ordered R) (sym h.2) (each_from_in (R x) h.1 (λ y i. in_from_each (R x) xs o.0 y ((sifted_in P xs h.1 y h.3 i).0)), sifts_ordered P R xs h.1 h.3 o.1)
  sifts_ordered P R (x ∷ xs) ys (inr h) o = sifts_ordered P R xs ys h.1 o.1
