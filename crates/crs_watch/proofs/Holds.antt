-- What a `hold` is, of the attribute and the value that it names.
use Rattle.std.proofs.Common.{◌≡◌, Bool, true, false, not, List, refl, sym, subst, inl, inr, arith}
use Rattle.std.specs.Prelude.{ℤ, pos, ◌≤ℤ◌, ◌<ℤ◌, ◌+ℤ◌}
use Rattle.std.specs.List.{AllZip, AllByRecursion}
use Rattle.std.proofs.lemmas.Int.{ints}
use Rattle.crs_base.specs.Entry.{Entry}
use Rattle.crs_base.specs.Values.{Attribute, HasValue}
use Rattle.crs_base.proofs.Deciding.{Tells}
use Rattle.crs_model.specs.Models.{Term, Hold}
use Rattle.crs_model.specs.Matching.{Binding, TermIs}
use Rattle.crs_model.specs.HasProgress.{IsBroken, IsUnbroken, IsWholeFor, StartsWell, StartsIll}
use Rattle.crs_model.proofs.Beginning.{same_attribute, hold_whole, hold_unlike, hold_changed}
use Rattle.crs_history.specs.Looking.{HasValueOver}
use Rattle.crs_model.specs.ProperModels.{IsDefinite}
use Rattle.crs_watch.specs.Begun.{Falls}
use Rattle.crs_watch.proofs.Terms.{plain_one, plain_all, named, held_by}

pub not_true : (b : Bool) → not b ≡ true → b ≡ false
not_true true h = cc
not_true false h = refl

pub not_false : (b : Bool) → not b ≡ false → b ≡ true
not_false true h = refl
not_false false h = cc

at_first : (t u : ℤ) → t ≤ℤ u → u <ℤ (t +ℤ pos 1) → t ≡ u
at_first t u l m = omega (arith, ints)

self : (t : ℤ) → t ≤ℤ t
self t = omega (arith, ints)

up_one : (t : ℤ) → t <ℤ (t +ℤ pos 1)
up_one t = omega (arith, ints)

module _ {S : Type 0} where
  pub value_first : (a : Attribute S) (entries : List (Entry S)) (v : S) (from until : ℤ) → until ≡ (from +ℤ pos 1) → HasValueOver a entries v from until → HasValue a entries from v
  value_first a entries v from until e h = h from (self from) (subst (λ (z : ℤ). from <ℤ z) (sym e) (up_one from))

  pub first_value : (a : Attribute S) (entries : List (Entry S)) (v : S) (from until : ℤ) → until ≡ (from +ℤ pos 1) → HasValue a entries from v → HasValueOver a entries v from until
  first_value a entries v from until e h = λ t l m. subst (λ (z : ℤ). HasValue a entries z v) (at_first from t l (subst (λ (z : ℤ). t <ℤ z) e m)) h

  module _ (look : Binding S) (name : S) (terms : List (Term S)) (value : Term S) (args : List S) (v : S) (has_args : AllZip (TermIs look) terms args) (has_value : TermIs look value v) (one : AllByRecursion IsDefinite terms) (one_value : IsDefinite value) (entries : List (Entry S)) where
    abbrev a : Attribute S
    a = named look name terms value args v has_args has_value

    pub whole_by : (from to h : ℤ) → IsWholeFor entries a v from to h → IsUnbroken entries look (Hold name terms value) from to h
    whole_by from to h w = hold_whole look name terms value a v (plain_all terms one) (plain_one value one_value) (held_by look name terms value args v has_args has_value) entries from to h w

    pub broken_by : Tells S → (from to h : ℤ) → Falls entries a v from to h → IsBroken entries look (Hold name terms value) from to h
    broken_by tells from to h (inl f) = hold_unlike look name terms value a v (plain_all terms one) (plain_one value one_value) (held_by look name terms value args v has_args has_value) entries from to h tells f
    broken_by tells from to h (inr w) = hold_changed look name terms value a v (plain_all terms one) (plain_one value one_value) (held_by look name terms value args v has_args has_value) entries from to h w.0 w.1 w.2 w.3 w.4

    pub well_by : (from : ℤ) → HasValue a entries from v → StartsWell entries look (Hold name terms value) from
    well_by from h b w is =
        let s = same_attribute look name terms value a b v w (plain_all terms one) (plain_one value one_value) (held_by look name terms value args v has_args has_value) is in
        subst (λ (z : Attribute S). HasValue z entries from w) s.0 (subst (λ (z : S). HasValue a entries from z) s.1 h)

    pub ill_by : (from : ℤ) → (HasValue a entries from v → ⊥) → StartsIll entries look (Hold name terms value) from
    ill_by from h = (a, v, held_by look name terms value args v has_args has_value, h)
