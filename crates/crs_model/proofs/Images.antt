-- A list that is made of another, each element giving some.
use Rattle.std.proofs.Common.{◌≡◌, List, [], ◌∷◌, ◌++◌, sym, subst, ◌∙◌, inl, inr}
use Rattle.crs_base.specs.Words.{IsIn}
use Rattle.crs_base.proofs.Words.{in_append, in_append_left, in_append_right, ordered_append}
use Rattle.crs_model.specs.Images.{IsImage}

module _ {A B : Type 0} (From : A → B → Type 0) where
  pub image_none : IsImage From [] []
  image_none = record { distinct = tt; sound = λ y i. absurd i; complete = λ x y i f. absurd i }

  pub image_more : (done more : List A) (out new : List B) → ((x z : A) (y : B) → IsIn x done → IsIn z more → From x y → From z y → x ≡ z)
      → ((x : A) → IsIn x done → IsIn x more → ⊥) → IsImage From done out → IsImage From more new
      → IsImage From (done ++ more) (out ++ new)
  image_more done more out new back fresh h k = record {
    distinct = ordered_append (λ a b. a ≡ b → ⊥) out new h.distinct k.distinct (λ y z i j e.
        let r = h.sound y i in
        let s = k.sound z j in
        fresh r.0 r.1 (subst (λ x. IsIn x more) (sym (back r.0 s.0 y r.1 s.1 r.2 (subst (λ w. From s.0 w) (sym e) s.2))) s.1));
    sound = λ y i. elim (in_append out new y i) [
      | inl a ↦ let r = h.sound y a in (r.0, in_append_left done more r.0 r.1, r.2)
      | inr b ↦ let r = k.sound y b in (r.0, in_append_right done more r.0 r.1, r.2)
    ];
    complete = λ x y i f. elim (in_append done more x i) [
      | inl a ↦ in_append_left out new y (h.complete x y a f)
      | inr b ↦ in_append_right out new y (k.complete x y b f)
    ];
  }

  -- one more
  pub image_one : (done : List A) (x : A) (out new : List B) → ((z : A) (y : B) → IsIn z done → From z y → From x y → z ≡ x)
      → (IsIn x done → ⊥) → IsImage From done out → IsImage From (x ∷ []) new → IsImage From (done ++ x ∷ []) (out ++ new)
  image_one done x out new back fresh h k = image_more done (x ∷ []) out new
      (λ z w y i j f g. elim j [ inl s ↦ back z y i f (subst (λ (t : A). From t y) s g) ∙ sym s | inr none ↦ absurd none ])
      (λ z i j. elim j [ inl s ↦ fresh (subst (λ (t : A). IsIn t done) s i) | inr none ↦ absurd none ]) h k
