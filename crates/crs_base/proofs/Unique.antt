-- Two lists in strict order with the same members are the same.
use Rattle.std.proofs.Common.{◌≡◌, List, [], ◌∷◌, refl, sym, subst, ◌∙◌, inl, inr}
use Rattle.std.specs.Cmp.{IsTotalOrder}
use Rattle.std.specs.Ordering.{ordering_reverse}
use Rattle.std.specs.List.{AllByRecursion}
use Rattle.std.specs.declared.cmp.Ordering.{Ordering}
use Rattle.std.specs.declared.cmp.Ordering.TheVariants.{Less, Equal, Greater}
use Rattle.crs_base.specs.Words.{IsIn, Ordered}
use Rattle.crs_base.proofs.Words.{in_from_each}

not_before : (o : Ordering) → o ≡ ordering_reverse o → o ≡ Less → ⊥
not_before Less e h = cc
not_before Equal e h = cc
not_before Greater e h = cc

module _ {A : Type 0} {R : A → A → Ordering} (total : IsTotalOrder R) where
  abbrev Below : A → A → Type 0
  Below x y = R x y ≡ Less

  irreflexive : (x : A) → Below x x → ⊥
  irreflexive x h = not_before (R x x) (total.antisymm x x) h

  -- the first of each is the first of the other
  same_first : (x y : A) (xs ys : List A) → AllByRecursion (Below x) xs → AllByRecursion (Below y) ys → IsIn x (y ∷ ys) → IsIn y (x ∷ xs) → x ≡ y
  same_first x y xs ys o p (inl e) j = e
  same_first x y xs ys o p (inr i) (inl e) = sym e
  same_first x y xs ys o p (inr i) (inr j) = absurd (irreflexive x (total.trans x y x (in_from_each (Below x) xs o y j) (in_from_each (Below y) ys p x i)))

  behind : (x y z : A) (xs ys : List A) → x ≡ y → AllByRecursion (Below x) xs → IsIn z xs → IsIn z (y ∷ ys) → IsIn z ys
  behind x y z xs ys e o i (inl k) = absurd (irreflexive x (subst (Below x) (k ∙ sym e) (in_from_each (Below x) xs o z i)))
  behind x y z xs ys e o i (inr j) = j

  pub same_members : (xs ys : List A) → Ordered Below xs → Ordered Below ys → ((z : A) → IsIn z xs → IsIn z ys) → ((z : A) → IsIn z ys → IsIn z xs) → xs ≡ ys
  same_members [] [] o p there back = refl
  same_members [] (y ∷ ys) o p there back = absurd (back y (inl refl))
  same_members (x ∷ xs) [] o p there back = absurd (there x (inl refl))
  same_members (x ∷ xs) (y ∷ ys) o p there back =
      let e : x ≡ y = same_first x y xs ys o.0 p.0 (there x (inl refl)) (back y (inl refl)) in
      let r : xs ≡ ys = same_members xs ys o.1 p.1
      (λ z i. behind x y z xs ys e o.0 i (there z (inr i)))
      (λ z i. behind y x z ys xs (sym e) p.0 i (back z (inr i))) in
      λ i. e i ∷ r i
