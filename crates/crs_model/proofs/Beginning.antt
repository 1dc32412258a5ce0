-- The progress of a window at its first date: over what a history keeps, and of a `hold` whose attribute is known.
use Rattle.std.proofs.Common.{◌≡◌, ℕ, List, [], ◌∷◌, refl, sym, subst, ◌∙◌, inl, inr, arith}
use Rattle.std.specs.Prelude.{ℤ, ◌≤ℤ◌, ◌<ℤ◌}
use Rattle.std.specs.List.{AllZip, AllByRecursion}
use Rattle.std.proofs.lemmas.Int.{ints, by_lt_z}
use Rattle.crs_base.specs.Words.{IsIn}
use Rattle.crs_base.specs.Sifted.{Sifts}
use Rattle.crs_base.specs.Entry.{Entry}
use Rattle.crs_base.specs.Values.{Attribute, IsChange, NewIs, HasValue}
use Rattle.crs_base.proofs.Deciding.{Tells, holds_or_not}
use Rattle.crs_model.specs.Models.{Term, Value, Var, Any, Hold}
use Rattle.crs_model.specs.Matching.{Binding, TermIs}
use Rattle.crs_model.specs.Verdicts.{Count, IsDatedIn, IsHeld}
use Rattle.crs_model.specs.HasProgress.{IsBroken, IsWholeFor, IsUnbroken}

-- what counts is among those that are kept: the counts are the same
pub count_sifted : {A : Type 0} (P Q : A → Type 0) → ((x : A) → P x → Q x) → (xs ys : List A) (n : ℕ) → Sifts Q xs ys → Count P ys n → Count P xs n
count_sifted P Q sub [] ys n h k = subst (λ (t : List _). Count P t n) h k
count_sifted P Q sub (x ∷ xs) ys n (inl h) k = elim (subst (λ (t : List _). Count P t n) h.2 k) [
  | inl m ↦ inl (m.0, m.1, m.2, count_sifted P Q sub xs h.1 m.1 h.3 m.3)
  | inr m ↦ inr (m.0, count_sifted P Q sub xs h.1 n h.3 m.1)
]
count_sifted P Q sub (x ∷ xs) ys n (inr h) k = inr (λ p. h.0 (sub x p), count_sifted P Q sub xs ys n h.1 k)

module _ {S : Type 0} where
  -- the term isn't `*`
  abbrev pub IsPlain : Term S → Type 0
  IsPlain (Value x) = Unit {0}
  IsPlain (Var v) = Unit {0}
  IsPlain Any = ⊥

  -- ---- the attribute of a `hold` without `*` is determined

  same_term : (look : Binding S) (t : Term S) (x y : S) → IsPlain t → TermIs look t x → TermIs look t y → x ≡ y
  same_term look (Value z) x y p h k = sym h ∙ k
  same_term look (Var v) x y p h k = cc
  same_term look Any x y p h k = absurd p

  same_terms : (look : Binding S) (ts : List (Term S)) (xs ys : List S) → AllByRecursion IsPlain ts → AllZip (TermIs look) ts xs → AllZip (TermIs look) ts ys → xs ≡ ys
  same_terms look [] [] [] p h k = refl
  same_terms look [] (x ∷ xs) ys p h k = absurd h
  same_terms look [] [] (y ∷ ys) p h k = absurd k
  same_terms look (t ∷ ts) [] ys p h k = absurd h
  same_terms look (t ∷ ts) (x ∷ xs) [] p h k = absurd k
  same_terms look (t ∷ ts) (x ∷ xs) (y ∷ ys) p h k =
      let e = same_term look t x y p.0 h.0 k.0 in
      let r = same_terms look ts xs ys p.1 h.1 k.1 in
      λ i. e i ∷ r i

  pub same_attribute : (look : Binding S) (name : S) (terms : List (Term S)) (value : Term S) (a b : Attribute S) (v w : S) → AllByRecursion IsPlain terms → IsPlain value → IsHeld look name terms value a v → IsHeld look name terms value b w → (a ≡ b) × (v ≡ w)
  same_attribute look name terms value a b v w p q h k = (same a b (h.name_is ∙ sym k.name_is) (same_terms look terms a.args b.args p h.args_are k.args_are), same_term look value v w q h.value_is k.value_is)
    where
      same : (a b : Attribute S) → a.name ≡ b.name → a.args ≡ b.args → a ≡ b
      same a b m n = λ i. record { name = m i; args = n i }

  module _ (look : Binding S) (name : S) (terms : List (Term S)) (value : Term S) (a : Attribute S) (v : S) (plain : AllByRecursion IsPlain terms) (plain_value : IsPlain value) (held : IsHeld look name terms value a v) (entries : List (Entry S)) (from to h : ℤ) where
    pub hold_whole : IsWholeFor entries a v from to h → IsUnbroken entries look (Hold name terms value) from to h
    hold_whole whole b w is =
        let s = same_attribute look name terms value a b v w plain plain_value held is in
        subst (λ (z : Attribute S). IsWholeFor entries z w from to h) s.0 (subst (λ (z : S). IsWholeFor entries a z from to h) s.1 whole)

    -- not the wanted value at each date: broken, where equality of symbols can be told
    pub hold_unlike : Tells S → (((t : ℤ) → from ≤ℤ t → t <ℤ to → t <ℤ h → HasValue a entries t v) → ⊥) → IsBroken entries look (Hold name terms value) from to h
    hold_unlike tells not = by_lt_z to h (λ l. at to (λ t m. (m, below t to h m l)) (λ t m n. m)) (λ l. at h (λ t m. (upper t h to m l, m)) (λ t m n. n))
      where
        below : (t u z : ℤ) → t <ℤ u → u <ℤ z → t <ℤ z
        below t u z m l = omega (arith, ints)

        upper : (t u z : ℤ) → t <ℤ u → u ≤ℤ z → t <ℤ z
        upper t u z m l = omega (arith, ints)

        at : (until : ℤ) → ((t : ℤ) → t <ℤ until → (t <ℤ to) × (t <ℤ h)) → ((t : ℤ) → t <ℤ to → t <ℤ h → t <ℤ until) → IsBroken entries look (Hold name terms value) from to h
        at until both back = elim (holds_or_not tells a entries v from until) [
          | inl all ↦ absurd (not (λ t l m n. all t l (back t m n)))
          | inr w ↦ (a, v, held, inl (w.0, w.1, (both w.0 w.2).0, (both w.0 w.2).1, w.3))
        ]

    pub hold_changed : (e : Entry S) → IsIn e entries → IsChange a e → IsDatedIn from to e → (NewIs v e → ⊥) → IsBroken entries look (Hold name terms value) from to h
    hold_changed e i c d n = (a, v, held, inr (e, i, c, d, n))
