-- What a scan gives, put together from what is decided on one event after another: which of the candidates it is bound to, or that it is left.
use Rattle.std.proofs.Common.{◌≡◌, ◌≢◌, ℕ, ◌<◌, ◌≤◌, length, List, [], ◌∷◌, ◌++◌, refl, sym, ap, subst, ◌∙◌, inl, inr, ◌⊎◌, arith, length-set}
use Rattle.std.specs.Prelude.{Option, Some, None}
use Rattle.std.proofs.lemmas.Bool.Decides.{eqb_tells}
use Rattle.std.proofs.lemmas.List.{ext_get_or}
use Rattle.crs_base.specs.Words.{IsIn}
use Rattle.crs_base.proofs.Words.{in_append, in_append_left, in_append_right, ordered_append}
use Rattle.crs_base.specs.Entry.{Entry}
use Rattle.crs_model.specs.Partial.{Partial, at, put, IsLevelClosed, IsAwaited}
use Rattle.crs_model.specs.Images.{IsImage}
use Rattle.crs_model.specs.Steps.{GoesOn}
use Rattle.crs_model.specs.Scans.{GrowsTo, GrowsIn, Decides, DecidesWith, StartsAt}
use Rattle.crs_model.proofs.Images.{image_one}
use Rattle.crs_model.proofs.Options.{cases_of}
use Rattle.crs_model.proofs.Parts.{at_within, put_same, put_other}

module _ {S : Type 0} (level : ℕ → ℕ) (Fine : Partial S → Type 0) where
  some_is : (o : Option (Entry S)) (y z : Entry S) → o ≡ Some y → o ≡ Some z → y ≡ z
  some_is o y z s t = cc

  not_both : (o : Option (Entry S)) (y : Entry S) → o ≡ Some y → o ≡ None → ⊥
  not_both o y s n = cc

  -- ---- where it starts

  from_none : (l : ℕ) (a b : Partial S) → GrowsTo level l a b → GrowsIn level l [] a b
  from_none l a b h = record { len = h.len; part = h.part; beyond = λ f y n s. inr (h.beyond f y n s) }

  to_none : (l : ℕ) (a b : Partial S) → GrowsIn level l [] a b → GrowsTo level l a b
  to_none l a b h = record { len = h.len; part = h.part; beyond = λ f y n s. elim (h.beyond f y n s) [ inl k ↦ absurd k | inr k ↦ k ] }

  only_one : {A : Type 0} (x z : A) → IsIn z (x ∷ []) → z ≡ x
  only_one x z (inl s) = s
  only_one x z (inr none) = absurd none

  pub decided_start : (x : Entry S) (a : Partial S) (e : ℕ) (out : List (Partial S)) → IsAwaited level a e → IsImage (Decides level Fine (level e) []) (put a e x ∷ []) out → IsImage (StartsAt level Fine x a) (e ∷ []) out
  decided_start x a e out w h = record {
    distinct = h.distinct;
    sound = λ b i.
        let r = h.sound b i in
        let q : Decides level Fine (level e) [] (put a e x) b = subst (λ (t : Partial S). Decides level Fine (level e) [] t b) (only_one (put a e x) r.0 r.1) r.2 in
        (e, inl refl, (w, to_none (level e) (put a e x) b q.0, q.1));
    complete = λ f b i s. elim i [
      | inl q ↦ (let t : StartsAt level Fine x a e b = subst (λ (g : ℕ). StartsAt level Fine x a g b) q s in h.complete (put a e x) b (inl refl) (from_none (level e) (put a e x) b t.1, t.2))
      | inr none ↦ absurd none
    ];
  }

  -- ---- one event, bound to one entry after another

  module _ (l : ℕ) (rest : List ℕ) (a : Partial S) (e : ℕ) (inside : e < length a) where
    has_it : (y : Entry S) (b : Partial S) → DecidesWith level Fine l rest a e y b → at b e ≡ Some y
    has_it y b h = (h.0).part e y (put_same a e y inside)

    pub with_one_more : (ys : List (Entry S)) (y : Entry S) (out new : List (Partial S)) → (IsIn y ys → ⊥) → IsImage (DecidesWith level Fine l rest a e) ys out
        → IsImage (Decides level Fine l rest) (put a e y ∷ []) new → IsImage (DecidesWith level Fine l rest a e) (ys ++ y ∷ []) (out ++ new)
    with_one_more ys y out new fresh h k = image_one (DecidesWith level Fine l rest a e) ys y out new
        (λ z b i s t. some_is (at b e) z y (has_it z b s) (has_it y b t)) fresh h
        (record {
          distinct = k.distinct;
          sound = λ b i. let r = k.sound b i in (y, inl refl, subst (λ (t : Partial S). Decides level Fine l rest t b) (only_one (put a e y) r.0 r.1) r.2);
          complete = λ z b i s. elim i [ inl q ↦ k.complete (put a e y) b (inl refl) (subst (λ (t : Entry S). Decides level Fine l rest (put a e t) b) q s) | inr none ↦ absurd none ];
        })

    module _ (todo : List ℕ) (unbound : at a e ≡ None) (same : level e ≡ l) (there : IsIn e todo) (kept : (f : ℕ) → IsIn f rest → IsIn f todo) (others : (f : ℕ) → IsIn f todo → (f ≡ e) ⊎ IsIn f rest) (apart : IsIn e rest → ⊥) where
      bound_back : (y : Entry S) (b : Partial S) → DecidesWith level Fine l rest a e y b → Decides level Fine l todo a b
      bound_back y b h = (
        record {
          len = sym (length-set a e (Some y)) ∙ (h.0).len;
          part = λ f z s. (h.0).part f z (elim (eqb_tells f e) [
            | inl q ↦ absurd (not_both (at a e) z (subst (λ (n : ℕ). at a n ≡ Some z) q.1 s) unbound)
            | inr o ↦ put_other a e f y o.1 ∙ s
          ]);
          beyond = λ f z n s. elim (eqb_tells f e) [
            | inl q ↦ inl (subst (λ (m : ℕ). IsIn m todo) (sym q.1) there)
            | inr o ↦ elim ((h.0).beyond f z (put_other a e f y o.1 ∙ n) s) [ inl k ↦ inl (kept f k) | inr k ↦ inr k ]
          ];
        },
        h.1,
      )

      left_back : (b : Partial S) → Decides level Fine l rest a b → Decides level Fine l todo a b
      left_back b h = (record { len = (h.0).len; part = (h.0).part; beyond = λ f z n s. elim ((h.0).beyond f z n s) [ inl k ↦ inl (kept f k) | inr k ↦ inr k ] }, h.1)

      -- where it is left, it is unbound
      left_free : (b : Partial S) (y : Entry S) → Decides level Fine l rest a b → at b e ≡ Some y → ⊥
      left_free b y h s = elim ((h.0).beyond e y unbound s) [ inl k ↦ apart k | inr k ↦ omega (arith, same) ]

      bound_on : (y : Entry S) (b : Partial S) → Decides level Fine l todo a b → at b e ≡ Some y → DecidesWith level Fine l rest a e y b
      bound_on y b h s = (
        record {
          len = length-set a e (Some y) ∙ (h.0).len;
          part = λ f z t. elim (eqb_tells f e) [
            | inl q ↦ subst (λ (n : ℕ). at b n ≡ Some z) (sym q.1) (s ∙ ap Some (some_is (at (put a e y) e) y z (put_same a e y inside) (subst (λ (n : ℕ). at (put a e y) n ≡ Some z) q.1 t)))
            | inr o ↦ (h.0).part f z (sym (put_other a e f y o.1) ∙ t)
          ];
          beyond = λ f z n t. elim (eqb_tells f e) [
            | inl q ↦ absurd (not_both (at (put a e y) e) y (put_same a e y inside) (subst (λ (m : ℕ). at (put a e y) m ≡ None) q.1 n))
            | inr o ↦ elim ((h.0).beyond f z (sym (put_other a e f y o.1) ∙ n) t) [
              | inl k ↦ elim (others f k) [ inl q ↦ absurd (o.1 q) | inr r ↦ inl r ]
              | inr k ↦ inr k
            ]
          ];
        },
        h.1,
      )

      left_on : (b : Partial S) → Decides level Fine l todo a b → at b e ≡ None → Decides level Fine l rest a b
      left_on b h n = (
        record {
          len = (h.0).len;
          part = (h.0).part;
          beyond = λ f z m t. elim ((h.0).beyond f z m t) [
            | inl k ↦ elim (others f k) [ inl q ↦ absurd (not_both (at b e) z (subst (λ (i : ℕ). at b i ≡ Some z) q t) n) | inr r ↦ inl r ]
            | inr k ↦ inr k
          ];
        },
        h.1,
      )

      -- bound to each of the candidates, or left
      pub decided_one : (ys : List (Entry S)) (out left : List (Partial S)) → ((y : Entry S) (b : Partial S) → Decides level Fine l todo a b → at b e ≡ Some y → IsIn y ys)
          → IsImage (DecidesWith level Fine l rest a e) ys out → IsImage (Decides level Fine l rest) (a ∷ []) left → IsImage (Decides level Fine l todo) (a ∷ []) (out ++ left)
      decided_one ys out left enough h k = record {
        distinct = ordered_append (λ p q. p ≡ q → ⊥) out left h.distinct k.distinct (λ p q i j s.
            let r = h.sound p i in
            let u = k.sound q j in
            let v : Decides level Fine l rest a q = subst (λ (t : Partial S). Decides level Fine l rest t q) (only_one a u.0 u.1) u.2 in
            left_free q r.0 v (ap (λ (t : Partial S). at t e) (sym s) ∙ has_it r.0 p r.2));
        sound = λ b i. elim (in_append out left b i) [
          | inl j ↦ (let r = h.sound b j in (a, inl refl, bound_back r.0 b r.2))
          | inr j ↦ (let u = k.sound b j in (a, inl refl, left_back b (subst (λ (t : Partial S). Decides level Fine l rest t b) (only_one a u.0 u.1) u.2)))
        ];
        complete = λ z b i s.
            let d : Decides level Fine l todo a b = subst (λ (t : Partial S). Decides level Fine l todo t b) (only_one a z i) s in
            elim (cases_of (at b e)) [
              | inl n ↦ in_append_right out left b (k.complete a b (inl refl) (left_on b d n))
              | inr y ↦ in_append_left out left b (h.complete y.0 b (enough y.0 b d y.1) (bound_on y.0 b d y.1))
            ];
      }

      -- where it can't be left
      pub never_left : ((b : Partial S) → Decides level Fine l todo a b → at b e ≡ None → ⊥) → IsImage (Decides level Fine l rest) (a ∷ []) []
      never_left never = record {
        distinct = tt;
        sound = λ b i. absurd i;
        complete = λ z b i s.
            let d : Decides level Fine l rest a b = subst (λ (t : Partial S). Decides level Fine l rest t b) (only_one a z i) s in
            elim (cases_of (at b e)) [ inl n ↦ absurd (never b (left_back b d) n) | inr y ↦ absurd (left_free b y.0 d y.1) ];
      }

  -- ---- all events of a level were decided on

  module _ (closed : (b : Partial S) → Fine b → IsLevelClosed level b) (l : ℕ) (a : Partial S) where
    -- an event of a level that is no higher is left, or none
    abbrev pub Ends : Type 0
    Ends = ((g : ℕ) × IsAwaited level a g × (level g ≤ l)) ⊎ ((f : ℕ) → f < length a → at a f ≡ None → ⊥)

    stays_free : (b : Partial S) → Decides level Fine l [] a b → Ends → (f : ℕ) → f < length a → at a f ≡ None → at b f ≡ None
    stays_free b d (inr none) f m n = absurd (none f m n)
    stays_free b d (inl some) f m n = elim (cases_of (at b f)) [
      | inl k ↦ k
      | inr y ↦ elim ((d.0).beyond f y.0 n y.1) [
        | inl never ↦ absurd never
        | inr higher ↦ (let g = some.0 in elim (cases_of (at b g)) [
          | inl free ↦ closed b d.1 g f (let w = (some.1).within in let k = (d.0).len in omega arith) (let low = some.2 in omega arith) free
          | inr z ↦ elim ((d.0).beyond g z.0 (some.1).unbound z.1) [ inl never ↦ absurd never | inr k ↦ (let low = some.2 in absurd (omega arith)) ]
        ])
      ]
    ]

    same_as : (b : Partial S) → Decides level Fine l [] a b → Ends → b ≡ a
    same_as b d ends = ext_get_or None b a (sym (d.0).len) (λ f m. elim (cases_of (at a f)) [
      | inl n ↦ stays_free b d ends f (let k = (d.0).len in omega arith) n ∙ sym n
      | inr y ↦ (d.0).part f y.0 y.1 ∙ sym y.1
    ])

    pub decided_end : Ends → (out : List (Partial S)) → IsImage (GoesOn Fine) (a ∷ []) out → IsImage (Decides level Fine l []) (a ∷ []) out
    decided_end ends out h = record {
      distinct = h.distinct;
      sound = λ b i.
          let r = h.sound b i in
          let s : b ≡ a = (r.2).0 ∙ only_one a r.0 r.1 in
          (a, inl refl, (subst (λ (t : Partial S). GrowsIn level l [] a t) (sym s) (record { len = refl; part = λ e y t. t; beyond = λ f y n t. absurd (not_both (at a f) y t n) }), (r.2).1));
      complete = λ z b i s.
          let d : Decides level Fine l [] a b = subst (λ (t : Partial S). Decides level Fine l [] t b) (only_one a z i) s in
          h.complete a b (inl refl) (same_as b d ends, d.1);
    }

    -- the events of the next level are decided on
    pub decided_up : (m : ℕ) (todo : List ℕ) → l < m → ((f : ℕ) → IsIn f todo → level f ≡ m) → ((f : ℕ) → f < length a → at a f ≡ None → m ≤ level f) → ((f : ℕ) → f < length a → at a f ≡ None → level f ≡ m → IsIn f todo)
        → (out : List (Partial S)) → IsImage (Decides level Fine m todo) (a ∷ []) out → IsImage (Decides level Fine l []) (a ∷ []) out
    decided_up m todo up of low all out h = record {
      distinct = h.distinct;
      sound = λ b i.
          let r = h.sound b i in
          let d : Decides level Fine m todo a b = subst (λ (t : Partial S). Decides level Fine m todo t b) (only_one a r.0 r.1) r.2 in
          (a, inl refl, (record { len = (d.0).len; part = (d.0).part; beyond = λ f y n s. elim ((d.0).beyond f y n s) [ inl k ↦ inr (let q = of f k in omega arith) | inr k ↦ inr (omega arith) ] }, d.1));
      complete = λ z b i s.
          let d : Decides level Fine l [] a b = subst (λ (t : Partial S). Decides level Fine l [] t b) (only_one a z i) s in
          h.complete a b (inl refl) (
            record {
              len = (d.0).len;
              part = (d.0).part;
              beyond = λ f y n t.
                  let inside : f < length a = (let k = at_within b f y t in let q = (d.0).len in omega arith) in
                  elim (eqb_tells (level f) m) [ inl q ↦ inl (all f inside n q.1) | inr o ↦ inr (let k = low f inside n in let q = o.1 in higher (level f) k q) ];
            },
            d.1,
          );
    }
      where
        higher : (k : ℕ) → m ≤ k → k ≢ m → m < k
        higher k g n = omega (arith, n)
