-- The attribute and the value that a `hold` names.
use Rattle.std.proofs.Common.{◌≡◌, ℕ, ◌<◌, List, [], ◌∷◌, length, map, get_or, refl, subst, arith, zero, suc}
use Rattle.std.specs.Prelude.{ℤ}
use Rattle.std.specs.List.{AllZip, AllByRecursion}
use Rattle.crs_base.specs.Entry.{Entry}
use Rattle.crs_base.specs.Values.{Attribute, IsChange, NewIs}
use Rattle.crs_model.specs.Models.{Term, Value, Var, Any, Hold}
use Rattle.crs_model.specs.Matching.{Binding, TermIs}
use Rattle.crs_model.specs.Verdicts.{IsDatedIn, IsHeld}
use Rattle.crs_model.specs.HasProgress.{Spares}
use Rattle.crs_model.proofs.Beginning.{IsPlain, same_attribute}
use Rattle.crs_model.specs.ProperModels.{IsDefinite}

pub each_at : {A B : Type 0} (P : B → Type 0) (f : A → B) (xs : List A) → AllByRecursion P (map f xs) → (k : ℕ) (d : A) → k < length xs → P (f (get_or xs k d))
each_at P f [] h k d l = absurd (omega arith)
each_at P f (x ∷ xs) h zero d l = h.0
each_at P f (x ∷ xs) h (suc k) d l = each_at P f xs h.1 k d (omega arith)

pub zip_from : {A B C : Type 0} (R : B → C → Type 0) (f : A → B) (xs : List A) (ys : List C) → length xs ≡ length ys → ((k : ℕ) (d : A) (y : C) → k < length xs → R (f (get_or xs k d)) (get_or ys k y)) → AllZip R (map f xs) ys
zip_from R f [] [] e h = tt
zip_from R f [] (y ∷ ys) e h = absurd (omega arith)
zip_from R f (x ∷ xs) [] e h = absurd (omega arith)
zip_from R f (x ∷ xs) (y ∷ ys) e h = (h 0 x y (omega arith), zip_from R f xs ys (omega arith) (λ k d z l. h (suc k) d z (omega arith)))

module _ {S : Type 0} where
  pub plain_one : (t : Term S) → IsDefinite t → IsPlain t
  plain_one (Value x) h = tt
  plain_one (Var v) h = tt
  plain_one Any h = absurd h

  pub plain_all : (ts : List (Term S)) → AllByRecursion IsDefinite ts → AllByRecursion IsPlain ts
  plain_all [] h = tt
  plain_all (t ∷ ts) h = (plain_one t h.0, plain_all ts h.1)

  module _ (look : Binding S) (name : S) (terms : List (Term S)) (value : Term S) (args : List S) (v : S) (has_args : AllZip (TermIs look) terms args) (has_value : TermIs look value v) where
    abbrev pub named : Attribute S
    named = record { name = name; args = args }

    pub held_by : IsHeld look name terms value named v
    held_by = record { name_is = refl; args_are = has_args; value_is = has_value }

    pub spared_by : (from to : ℤ) (x : Entry S) → AllByRecursion IsDefinite terms → IsDefinite value → (IsChange named x → IsDatedIn from to x → NewIs v x) → Spares look (Hold name terms value) from to x
    spared_by from to x p q h a w is =
        let s = same_attribute look name terms value named a v w (plain_all terms p) (plain_one value q) held_by is in
        subst (λ (z : Attribute S). IsChange z x → IsDatedIn from to x → NewIs w x) s.0 (subst (λ (z : S). IsChange named x → IsDatedIn from to x → NewIs z x) s.1 h)
