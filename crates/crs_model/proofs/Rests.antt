-- What is bound at the level of an event and below it, without that event.
use Rattle.std.proofs.Common.{◌≡◌, ◌≢◌, ℕ, zero, suc, ◌≤◌, ◌<◌, Bool, true, false, cond, not, nat_lt, eqb, [], ◌∷◌, length, refl, sym, ap, subst, ◌∙◌, inl, inr, ◌⊎◌, arith, length-set}
use Rattle.std.specs.Prelude.{Option, Some, None}
use Rattle.std.proofs.lemmas.Bool.{cases_lt, le-ltb, lt-ltb}
use Rattle.std.proofs.lemmas.Bool.Decides.{eqb_tells}
use Rattle.std.proofs.lemmas.List.{ext_get_or}
use Rattle.crs_base.specs.Entry.{Entry}
use Rattle.crs_model.specs.Partial.{Partial, at, put, IsLevelClosed, IsAwaited}
use Rattle.crs_model.specs.Scans.{GrowsTo}
use Rattle.crs_model.proofs.Options.{cases_of}
use Rattle.crs_model.proofs.Least.{Extends}
use Rattle.crs_model.proofs.Parts.{at_within, put_same, put_other}

module _ {S : Type 0} where
  -- what is bound where p holds
  abbrev pub only : (ℕ → Bool) → Partial S → Partial S
  only p [] = []
  only p (o ∷ a) = cond (p 0) o None ∷ only (λ n. p (suc n)) a

  length_only : (p : ℕ → Bool) (a : Partial S) → length (only p a) ≡ length a
  length_only p [] = refl
  length_only p (o ∷ a) = ap suc (length_only (λ n. p (suc n)) a)

  none_either : (b : Bool) (o : Option (Entry S)) → o ≡ cond b o o
  none_either true o = refl
  none_either false o = refl

  at_only : (p : ℕ → Bool) (a : Partial S) (e : ℕ) → at (only p a) e ≡ cond (p e) (at a e) None
  at_only p [] e = none_either (p e) None
  at_only p (o ∷ a) zero = refl
  at_only p (o ∷ a) (suc e) = at_only (λ n. p (suc n)) a e

  module _ (level : ℕ → ℕ) (e : ℕ) where
    abbrev pub rest : Partial S → Partial S
    rest a = only (λ f. cond (eqb f e) false (not (nat_lt (level e) (level f)))) a

    pub length_rest : (a : Partial S) → length (rest a) ≡ length a
    length_rest a = length_only (λ f. cond (eqb f e) false (not (nat_lt (level e) (level f)))) a

    -- an event of no higher level, other than e, is as before; the others are unbound
    pub rest_at : (a : Partial S) (f : ℕ)
        → ((f ≢ e) × (level f ≤ level e) × (at (rest a) f ≡ at a f)) ⊎ (((f ≡ e) ⊎ (level e < level f)) × (at (rest a) f ≡ None))
    rest_at a f = elim (eqb_tells f e) [
      | inl s ↦ inr (inl s.1, is ∙ ap (λ (t : Bool). cond (cond t false (not (nat_lt (level e) (level f)))) (at a f) None) s.0)
      | inr o ↦ elim (cases_lt (level e) (level f)) [
        | inl k ↦ inr (inr k, is ∙ ap (λ (t : Bool). cond (cond t false (not (nat_lt (level e) (level f)))) (at a f) None) o.0 ∙ ap (λ (t : Bool). cond (not t) (at a f) None) (lt-ltb (level e) (level f) k))
        | inr k ↦ inl (o.1, k, is ∙ ap (λ (t : Bool). cond (cond t false (not (nat_lt (level e) (level f)))) (at a f) None) o.0 ∙ ap (λ (t : Bool). cond (not t) (at a f) None) (le-ltb (level e) (level f) k))
      ]
    ]
      where
        is : at (rest a) f ≡ cond (cond (eqb f e) false (not (nat_lt (level e) (level f)))) (at a f) None
        is = at_only (λ g. cond (eqb g e) false (not (nat_lt (level e) (level g)))) a f

    pub rest_part : (a : Partial S) → Extends (rest a) a
    rest_part a f y i = elim (rest_at a f) [ inl s ↦ sym s.2 ∙ i | inr s ↦ let j = s.1 in absurd (cc) ]

    pub rest_free : (a : Partial S) → at (rest a) e ≡ None
    rest_free a = elim (rest_at a e) [ inl s ↦ absurd (s.0 refl) | inr s ↦ s.1 ]

    module _ (a : Partial S) (closed : IsLevelClosed level a) (x : Entry S) (bound : at a e ≡ Some x) where
      inside : e < length a
      inside = at_within a e x bound

      -- events of lower levels are bound, since e is
      below_bound : (f : ℕ) → f < length a → level f < level e → at a f ≡ None → ⊥
      below_bound f k l n = let m = closed f e k l n in absurd (cc)

      pub rest_closed : IsLevelClosed level (rest a)
      rest_closed f g k l n = elim (rest_at a g) [
        | inr s ↦ s.1
        | inl s ↦ elim (rest_at a f) [
          | inl t ↦ s.2 ∙ closed f g (let m = length_rest a in omega arith) l (sym t.2 ∙ n)
          | inr t ↦ elim t.0 [
            | inl q ↦ let m = s.1 in absurd (omega (arith, ap level q))
            | inr q ↦ let m = s.1 in absurd (omega arith)
          ]
        ]
      ]

      pub rest_awaits : IsAwaited level (rest a) e
      rest_awaits = record {
        within = let m = length_rest a in let k = inside in omega arith;
        unbound = rest_free a;
        least = λ f k n. elim (cases_lt (level f) (level e)) [
          | inr l ↦ l
          | inl l ↦ elim (rest_at a f) [
            | inl s ↦ absurd (below_bound f (let m = length_rest a in omega arith) l (sym s.2 ∙ n))
            | inr s ↦ elim s.0 [ inl q ↦ absurd (omega (arith, ap level q)) | inr q ↦ absurd (omega arith) ]
          ]
        ];
      }

      -- a is the rest with x at e, and beyond that has only events of higher levels
      pub rest_grows : GrowsTo level (level e) (put (rest a) e x) a
      rest_grows = record {
        len = length_put ∙ length_rest a;
        part = λ f y i. elim (eqb_tells f e) [
          | inl s ↦
              let j : at (put (rest a) e x) e ≡ Some y = subst (λ (t : ℕ). at (put (rest a) e x) t ≡ Some y) s.1 i in
              subst (λ (t : ℕ). at a t ≡ Some y) (sym s.1) (bound ∙ sym put_there ∙ j)
          | inr o ↦ rest_part a f y (sym (put_other (rest a) e f x o.1) ∙ i)
        ];
        beyond = λ f y n i. elim (eqb_tells f e) [
          | inl s ↦ let j : at (put (rest a) e x) e ≡ None = subst (λ (t : ℕ). at (put (rest a) e x) t ≡ None) s.1 n in let k = put_there in absurd (cc)
          | inr o ↦ elim (rest_at a f) [
            | inl s ↦ let j : at a f ≡ None = sym s.2 ∙ sym (put_other (rest a) e f x o.1) ∙ n in absurd (cc)
            | inr s ↦ elim s.0 [ inl q ↦ absurd (o.1 q) | inr q ↦ q ]
          ]
        ];
      }
        where
          length_put : length (put (rest a) e x) ≡ length (rest a)
          length_put = length-set (rest a) e (Some x)

          put_there : at (put (rest a) e x) e ≡ Some x
          put_there = put_same (rest a) e x (let m = length_rest a in let k = inside in omega arith)

    -- what awaits e and grows with x at it to b by events of higher levels is the rest of b
    pub only_rest : (a b : Partial S) (x : Entry S) → IsLevelClosed level a → IsAwaited level a e
        → GrowsTo level (level e) (put a e x) b → a ≡ rest b
    only_rest a b x closed w g = ext_get_or None a (rest b) (sym (length-set a e (Some x)) ∙ g.len ∙ sym (length_rest b)) (λ f k. elim (rest_at b f) [
      | inl s ↦ (elim (cases_of (at a f)) [
        | inr bound ↦ bound.1 ∙ sym (g.part f bound.0 (put_other a e f x s.0 ∙ bound.1)) ∙ sym s.2
        | inl free ↦ (elim (cases_of (at b f)) [
          | inl gone ↦ free ∙ sym gone ∙ sym s.2
          | inr some ↦ (let l = g.beyond f some.0 (put_other a e f x s.0 ∙ free) some.1 in let m = s.1 in absurd (omega arith))
        ])
      ])
      | inr s ↦ (elim s.0 [
        | inl q ↦ ap (λ (t : ℕ). at a t) q ∙ w.unbound ∙ sym s.1
        | inr q ↦ closed e f w.within q w.unbound ∙ sym s.1
      ])
    ])
