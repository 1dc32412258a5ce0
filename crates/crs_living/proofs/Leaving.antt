-- What a `retain` leaves of the instances.
use Rattle.std.proofs.Common.{◌≡◌, List, [], ◌∷◌, ◌++◌, refl, sym, subst, ◌∙◌, inl, inr}
use Rattle.std.specs.List.{AllByRecursion}
use Rattle.crs_base.specs.declared.symbols.Sym.{Sym}
use Rattle.crs_base.specs.Words.{Ordered}
use Rattle.crs_base.proofs.Words.{in_from_each}
use Rattle.crs_model.specs.Partial.{Partial}
use Rattle.crs_model.specs.Steps.{GoesOn}
use Rattle.crs_model.specs.Images.{IsImage}
use Rattle.crs_model.proofs.Images.{image_none, image_more}
use Rattle.crs_instance.specs.Instances.{InstanceState}
use Rattle.crs_living.specs.Parts.{parts}
use Rattle.crs_base.specs.Sifted.{Sifts}

pub leaves_each : {X : Type 0} (P Q : X → Type 0) (xs ys : List X) → AllByRecursion Q xs → Sifts P xs ys → AllByRecursion Q ys
leaves_each P Q [] ys all e = subst (AllByRecursion Q) (sym e) tt
leaves_each P Q (x ∷ xs) ys all (inl h) = subst (AllByRecursion Q) (sym h.2) (all.0, leaves_each P Q xs h.1 all.1 h.3)
leaves_each P Q (x ∷ xs) ys all (inr h) = leaves_each P Q xs ys all.1 h.1

module _ (P Q : InstanceState → Type 0) (Fine : Partial Sym → Type 0) (to : (i : InstanceState) → Q i → P i → Fine i.partial) (back : (i : InstanceState) → Q i → Fine i.partial → P i) where
  pub one_stays : (x : InstanceState) → Q x → P x → IsImage (GoesOn Fine) (x.partial ∷ []) (x.partial ∷ [])
  one_stays x q p = record {
    distinct = (tt, tt);
    sound = λ y k. elim k [ inl e ↦ (x.partial, inl refl, (e, subst (λ (z : Partial Sym). Fine z) (sym e) (to x q p))) | inr never ↦ absurd never ];
    complete = λ a y k g. elim k [ inl e ↦ inl (g.0 ∙ e) | inr never ↦ absurd never ];
  }

  pub one_goes : (x : InstanceState) → Q x → (P x → ⊥) → IsImage (GoesOn Fine) (x.partial ∷ []) []
  one_goes x q never = record {
    distinct = tt;
    sound = λ y k. absurd k;
    complete = λ a y k g. elim k [ inl e ↦ never (back x q (subst (λ (z : Partial Sym). Fine z) (g.0 ∙ e) g.1)) | inr no_one ↦ absurd no_one ];
  }

  more : (x : InstanceState) (xs : List InstanceState) (out new : List (Partial Sym)) → Ordered (λ a b. a ≡ b → ⊥) (parts (x ∷ xs)) → IsImage (GoesOn Fine) (x.partial ∷ []) out → IsImage (GoesOn Fine) (parts xs) new → IsImage (GoesOn Fine) (x.partial ∷ parts xs) (out ++ new)
  more x xs out new o h k =
      image_more (GoesOn Fine) (x.partial ∷ []) (parts xs) out new (λ a b y m n f g. sym f.0 ∙ g.0)
      (λ a m n. elim m [ inl s ↦ in_from_each (λ (z : Partial Sym). x.partial ≡ z → ⊥) (parts xs) o.0 a n (sym s) | inr never ↦ absurd never ]) h k

  pub leaves_image : (xs ys : List InstanceState) → AllByRecursion Q xs → Ordered (λ a b. a ≡ b → ⊥) (parts xs) → Sifts P xs ys → IsImage (GoesOn Fine) (parts xs) (parts ys)
  leaves_image [] ys all o e = subst (λ (t : List InstanceState). IsImage (GoesOn Fine) [] (parts t)) (sym e) (image_none (GoesOn Fine))
  leaves_image (x ∷ xs) ys all o (inl h) =
      subst (λ (t : List InstanceState). IsImage (GoesOn Fine) (parts (x ∷ xs)) (parts t)) (sym h.2)
      (more x xs (x.partial ∷ []) (parts h.1) o (one_stays x all.0 h.0) (leaves_image xs h.1 all.1 o.1 h.3))
  leaves_image (x ∷ xs) ys all o (inr h) = more x xs [] (parts ys) o (one_goes x all.0 h.0) (leaves_image xs ys all.1 o.1 h.1)
