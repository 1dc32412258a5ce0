-- Where equality of symbols can be told, so can the value of an attribute.
use Rattle.std.proofs.Common.{◌≡◌, ℕ, zero, suc, ◌≤◌, ◌+◌, true≢false, List, [], ◌∷◌, refl, sym, ap, subst, inl, inr, ◌⊎◌, arith}
use Rattle.std.specs.Prelude.{ℤ, pos, negsuc, ◌+ℤ◌, ◌≤ℤ◌, ◌<ℤ◌, Option, Some, None, IsSome, IsSomeAnd}
use Rattle.std.proofs.lemmas.Bool.{cases_lt}
use Rattle.std.proofs.lemmas.Bool.Decides.{eqb_tells}
use Rattle.std.proofs.lemmas.Int.{ints, by_lt_z}
use Rattle.crs_base.specs.declared.symbols.Sym.{Sym}
use Rattle.crs_base.specs.Words.{IsIn}
use Rattle.crs_base.specs.Entry.{Entry}
use Rattle.crs_base.specs.Values.{Attribute, IsChange, NewIs, IsLastChange, HasValue}

-- it holds or it doesn't
abbrev pub Either : Type 0 → Type 0
Either P = P ⊎ (P → ⊥)

-- equality can be told
abbrev pub Tells : Type 0 → Type 0
Tells S = (x y : S) → Either (x ≡ y)

-- a number that reaches from one to the other
far : (from until : ℤ) → (k : ℕ) × (until ≤ℤ (from +ℤ pos k))
far (pos a) (pos b) = (b, omega (arith, ints))
far (pos a) (negsuc b) = (0, omega (arith, ints))
far (negsuc a) (pos b) = (suc (a + b), omega (arith, ints))
far (negsuc a) (negsuc b) = (suc a, omega (arith, ints))

not_below : (from t : ℤ) → from ≤ℤ t → t <ℤ (from +ℤ pos 0) → ⊥
not_below from t l m = omega (arith, ints)

at_end : (from t : ℤ) (k : ℕ) → t <ℤ (from +ℤ pos (suc k)) → (from +ℤ pos k) ≤ℤ t → t ≡ (from +ℤ pos k)
at_end from t k l m = omega (arith, ints)

from_there : (from : ℤ) (k : ℕ) → from ≤ℤ (from +ℤ pos k)
from_there from k = omega (arith, ints)

up_one : (from : ℤ) (k : ℕ) → (from +ℤ pos k) <ℤ (from +ℤ pos (suc k))
up_one from k = omega (arith, ints)

module _ {S : Type 0} (tells : Tells S) where
  pub lists_tell : (xs ys : List S) → Either (xs ≡ ys)
  lists_tell [] [] = inl refl
  lists_tell [] (y ∷ ys) = inr (λ q. absurd (cc))
  lists_tell (x ∷ xs) [] = inr (λ q. absurd (cc))
  lists_tell (x ∷ xs) (y ∷ ys) = elim (tells x y) [
    | inr n ↦ inr (λ q. let e : x ≡ y = cc in n e)
    | inl e ↦ elim (lists_tell xs ys) [
      | inl f ↦ inl (λ i. e i ∷ f i)
      | inr n ↦ inr (λ q. let f : xs ≡ ys = cc in n f)
    ]
  ]

  some_tells : {A : Type 0} (o : Option A) → Either (IsSome o)
  some_tells None = inr (λ h. true≢false (sym h))
  some_tells (Some x) = inl refl

  pub new_tells : (v : S) (e : Entry S) → Either (NewIs v e)
  new_tells v e = by e.change
    where
      by : (o : Option (S × S)) → Either (IsSomeAnd o (λ c. c.1 ≡ v))
      by None = inr (λ h. h)
      by (Some c) = tells c.1 v

  module _ (a : Attribute S) where
    pub change_tells : (e : Entry S) → Either (IsChange a e)
    change_tells e = elim (tells e.name a.name) [
      | inr n ↦ inr (λ h. n h.named)
      | inl p ↦ elim (lists_tell e.args a.args) [
        | inr n ↦ inr (λ h. n h.of)
        | inl q ↦ elim (some_tells e.change) [
          | inr n ↦ inr (λ h. n h.change)
          | inl r ↦ inl (record { named = p; of = q; change = r })
        ]
      ]
    ]

    module _ (t : ℤ) where
      -- a change dated at or before t
      abbrev ByThen : Entry S → Type 0
      ByThen e = IsChange a e × (pos e.date ≤ℤ t)

      by_then_tells : (e : Entry S) → Either (ByThen e)
      by_then_tells e = elim (change_tells e) [
        | inr n ↦ inr (λ h. n h.0)
        | inl p ↦ by_lt_z t (pos e.date) (λ l. inr (λ h. too_late t (pos e.date) l h.1)) (λ l. inl (p, l))
      ]
        where
          too_late : (t d : ℤ) → t <ℤ d → d ≤ℤ t → ⊥
          too_late t d l m = omega (arith, ints)

      -- one of the greatest date
      abbrev Greatest : List (Entry S) → Type 0
      Greatest es = ((e : Entry S) → IsIn e es → ByThen e → ⊥) ⊎ ((e : Entry S) × IsIn e es × ByThen e × ((d : Entry S) → IsIn d es → ByThen d → d.date ≤ e.date))

      greatest : (es : List (Entry S)) → Greatest es
      greatest [] = inl (λ e i h. i)
      greatest (x ∷ es) = elim (by_then_tells x) [
        | inr n ↦ elim (greatest es) [
          | inl none ↦ inl (λ e i h. elim i [ inl s ↦ n (subst ByThen s h) | inr j ↦ none e j h ])
          | inr w ↦ inr (w.0, inr w.1, w.2, λ d i h. elim i [ inl s ↦ absurd (n (subst ByThen s h)) | inr j ↦ w.3 d j h ])
        ]
        | inl p ↦ elim (greatest es) [
          | inl none ↦ inr (x, inl refl, p, λ d i h. elim i [ inl s ↦ subst (λ (y : Entry S). d.date ≤ y.date) s (omega arith) | inr j ↦ absurd (none d j h) ])
          | inr w ↦ elim (cases_lt (w.0).date x.date) [
            | inl l ↦ inr (x, inl refl, p, λ d i h. elim i [ inl s ↦ subst (λ (y : Entry S). d.date ≤ y.date) s (omega arith) | inr j ↦ let m = w.3 d j h in omega arith ])
            | inr l ↦ inr (w.0, inr w.1, w.2, λ d i h. elim i [ inl s ↦ subst (λ (y : Entry S). y.date ≤ (w.0).date) (sym s) l | inr j ↦ w.3 d j h ])
          ]
        ]
      ]

      -- those of one date agree, or one doesn't
      agree : (v : S) (m : ℕ) (es : List (Entry S)) → ((e : Entry S) → IsIn e es → ByThen e → e.date ≡ m → NewIs v e) ⊎ ((e : Entry S) × IsIn e es × ByThen e × (e.date ≡ m) × (NewIs v e → ⊥))
      agree v m [] = inl (λ e i h s. absurd i)
      agree v m (x ∷ es) = elim (agree v m es) [
        | inr w ↦ inr (w.0, inr w.1, w.2, w.3, w.4)
        | inl all ↦ elim (new_tells v x) [
          | inl p ↦ inl (λ e i h s. elim i [ inl q ↦ subst (NewIs v) (sym q) p | inr j ↦ all e j h s ])
          | inr n ↦ elim (by_then_tells x) [
            | inr o ↦ inl (λ e i h s. elim i [ inl q ↦ absurd (o (subst ByThen q h)) | inr j ↦ all e j h s ])
            | inl p ↦ elim (eqb_tells x.date m) [
              | inl q ↦ inr (x, inl refl, p, q.1, n)
              | inr o ↦ inl (λ e i h s. elim i [ inl q ↦ absurd (o.1 (subst (λ (y : Entry S). y.date ≡ m) q s)) | inr j ↦ all e j h s ])
            ]
          ]
        ]
      ]

      last_of : (entries : List (Entry S)) (e : Entry S) → IsIn e entries → ByThen e → ((d : Entry S) → IsIn d entries → ByThen d → d.date ≤ e.date) → IsLastChange a entries t e
      last_of entries e i h g = record { given = i; change = h.0; by_then = h.1; greatest = λ d j c l. g d j (c, l) }

      pub value_tells : (entries : List (Entry S)) (v : S) → Either (HasValue a entries t v)
      value_tells entries v = elim (greatest entries) [
        | inl none ↦ inr (λ h. none (h.changed).0 ((h.changed).1).given (((h.changed).1).change, ((h.changed).1).by_then))
        | inr w ↦ elim (agree v (w.0).date entries) [
          | inl all ↦ inl (record {
            changed = (w.0, last_of entries w.0 w.1 w.2 w.3);
            agreed = λ e l. all e l.given (l.change, l.by_then) (let p = w.3 e l.given (l.change, l.by_then) in let q = l.greatest w.0 w.1 (w.2).0 (w.2).1 in omega arith);
          })
          | inr o ↦ inr (λ h. o.4 (h.agreed o.0 (last_of entries o.0 o.1 o.2 (λ d i c. subst (λ (m : ℕ). d.date ≤ m) (sym o.3) (w.3 d i c)))))
        ]
      ]

    -- A value stays while each later change brings it.
    pub value_carries : (entries : List (Entry S)) (v : S) (s t : ℤ) → s ≤ℤ t → HasValue a entries s v → ((e : Entry S) → IsIn e entries → IsChange a e → s <ℤ pos e.date → pos e.date ≤ℤ t → NewIs v e) → HasValue a entries t v
    value_carries entries v s t l h brings = elim (greatest t entries) [
      | inl none ↦ absurd (none (h.changed).0 ((h.changed).1).given (((h.changed).1).change, up s t (pos ((h.changed).0).date) ((h.changed).1).by_then l))
      | inr w ↦ record {
        changed = (w.0, last_of t entries w.0 w.1 w.2 w.3);
        agreed = λ e last. by_lt_z s (pos e.date)
            (λ m. brings e last.given last.change m last.by_then)
            (λ m. h.agreed e (record { given = last.given; change = last.change; by_then = m; greatest = λ d i c k. last.greatest d i c (up s t (pos d.date) k l) }));
      }
    ]
      where
        up : (s t d : ℤ) → d ≤ℤ s → s ≤ℤ t → d ≤ℤ t
        up s t d k l = omega (arith, ints)

    abbrev Below : List (Entry S) → S → ℤ → ℤ → ℕ → Type 0
    Below entries v from until k = ((t : ℤ) → from ≤ℤ t → t <ℤ (from +ℤ pos k) → t <ℤ until → HasValue a entries t v) ⊎ ((t : ℤ) × (from ≤ℤ t) × (t <ℤ until) × (HasValue a entries t v → ⊥))

    -- The attribute has the value at each date of a range, or there is a date of the range at which it hasn't.
    pub holds_or_not : (entries : List (Entry S)) (v : S) (from until : ℤ) → ((t : ℤ) → from ≤ℤ t → t <ℤ until → HasValue a entries t v) ⊎ ((t : ℤ) × (from ≤ℤ t) × (t <ℤ until) × (HasValue a entries t v → ⊥))
    holds_or_not entries v from until =
        let k = far from until in
        elim (below k.0) [
          | inl all ↦ inl (λ t l m. all t l (up t until (from +ℤ pos k.0) m k.1) m)
          | inr w ↦ inr w
        ]
      where
        up : (t u f : ℤ) → t <ℤ u → u ≤ℤ f → t <ℤ f
        up t u f l m = omega (arith, ints)

        later : (t p : ℤ) → p <ℤ until → t ≡ p → t <ℤ until
        later t p l s = omega (arith, ints, s)

        not_both : (t p : ℤ) → until ≤ℤ p → t ≡ p → t <ℤ until → ⊥
        not_both t p l s m = omega (arith, ints, s)

        one_more : (k : ℕ) → ((t : ℤ) → from ≤ℤ t → t <ℤ (from +ℤ pos k) → t <ℤ until → HasValue a entries t v) → ((t : ℤ) → t ≡ (from +ℤ pos k) → t <ℤ until → HasValue a entries t v) → Below entries v from until (suc k)
        one_more k all here = inl (λ t l m u. by_lt_z t (from +ℤ pos k) (λ n. all t l n u) (λ n. here t (at_end from t k m n) u))

        below : (k : ℕ) → Below entries v from until k
        below zero = inl (λ t l m u. absurd (not_below from t l m))
        below (suc k) = elim (below k) [
          | inr w ↦ inr w
          | inl all ↦ by_lt_z (from +ℤ pos k) until
              (λ l. elim (value_tells (from +ℤ pos k) entries v) [
                | inl h ↦ one_more k all (λ t s u. subst (λ (z : ℤ). HasValue a entries z v) (sym s) h)
                | inr n ↦ inr (from +ℤ pos k, from_there from k, l, n)
              ])
              (λ l. one_more k all (λ t s u. absurd (not_both t (from +ℤ pos k) l s u)))
        ]

pub sym_tells : Tells Sym
sym_tells x y = elim (eqb_tells x.0 y.0) [ inl s ↦ inl (same x y s.1) | inr o ↦ inr (λ (q : x ≡ y). o.1 (ap (λ (t : Sym). t.0) q)) ]
  where
    same : (x y : Sym) → x.0 ≡ y.0 → x ≡ y
    same x y e = λ i. record { 0 = e i }
