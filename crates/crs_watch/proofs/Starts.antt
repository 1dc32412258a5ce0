-- The progress of a window at a later date.
use Rattle.std.proofs.Common.{◌≡◌, ℕ, ◌≤◌, Bool, true, false, not, List, refl, sym, subst, inl, inr}
use Rattle.std.specs.Prelude.{ℤ, pos, ◌≤ℤ◌, ◌<ℤ◌}
use Rattle.std.proofs.lemmas.Int.{by_lt_z}
use Rattle.crs_base.specs.Entry.{Entry}
use Rattle.crs_base.proofs.Deciding.{Tells}
use Rattle.crs_model.specs.Models.{Body}
use Rattle.crs_model.specs.Matching.{Binding}
use Rattle.crs_model.specs.HasProgress.{IsProgress, StartsWell, StartsIll}
use Rattle.crs_model.proofs.WindowLaws.{passed_progress}

module _ {S : Type 0} (tells : Tells S) (look : Binding S) (body : Body S) (from to : ℤ) (entries : List (Entry S)) (since h : ℤ) (m n count : ℕ) (broken : Bool) (is : since ≡ pos m) (at : h ≡ pos n) (later : m ≤ n) (p : IsProgress entries look body from to (pos m) count broken) where
  pub passes_early : from <ℤ since → IsProgress entries look body from to (pos n) count broken
  passes_early l = passed_progress tells look body from to entries m n count broken broken later p
      (inl (refl, by_lt_z from to (λ k. inl (subst (λ (z : ℤ). from <ℤ z) is l, k)) (λ k. inr (inl (inl k)))))

  pub passes_late : h ≤ℤ from → IsProgress entries look body from to (pos n) count broken
  passes_late l = passed_progress tells look body from to entries m n count broken broken later p (inl (refl, inr (inl (inr (subst (λ (z : ℤ). z ≤ℤ from) at l)))))

  pub passes_start : (b : Bool) → broken ≡ false → from <ℤ to → from <ℤ h → (b ≡ true → StartsWell entries look body from) → (b ≡ false → StartsIll entries look body from) → IsProgress entries look body from to (pos n) count (not b)
  passes_start true e k l f g = passed_progress tells look body from to entries m n count broken false later p (inl (sym e, inr (inr (f refl))))
  passes_start false e k l f g = passed_progress tells look body from to entries m n count broken true later p (inr (refl, inr (k, subst (λ (z : ℤ). from <ℤ z) at l, g refl)))
