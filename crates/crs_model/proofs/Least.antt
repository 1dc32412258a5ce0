-- A part of what is bound has a least binding too.
use Rattle.std.proofs.Common.{◌≡◌, ℕ, zero, suc, Bool, true, false, cond, ◌||◌, List, [], ◌∷◌, refl, sym, ap, ◌∙◌, inl, inr, true≢false}
use Rattle.std.specs.Prelude.{Option, Some, None, slice_get, slice_index_or}
use Rattle.std.specs.List.{AllZip}
use Rattle.std.proofs.lemmas.Bool.Decides.{eqb_tells}
use Rattle.std.proofs.lemmas.Bool.{or_left, or_right, or_cases}
use Rattle.crs_base.specs.Entry.{Entry}
use Rattle.crs_model.specs.Models.{Term, Value, Var, Any, Pattern, EventDef, Chronicle}
use Rattle.crs_model.specs.Matching.{Binding, TermIs, ChangeIs, PatternIs, IsAllowed}
use Rattle.crs_model.specs.Partial.{Partial, at, EqualsAll, IsLeast}
use Rattle.crs_model.specs.Proper.{term_has, terms_have, change_has, pattern_has}
pub use Rattle.crs_model.specs.Bindings.{Looser}
use Rattle.crs_model.proofs.Options.{of_some, some_if}
use Rattle.crs_base.proofs.Words.{each_from_in, in_from_each}

module _ {S : Type 0} where
  abbrev pub here_has : ℕ → EventDef S → Option (Entry S) → Bool
  here_has v ev None = false
  here_has v ev (Some x) = pattern_has v ev.pattern

  -- the variable stands in the pattern of some bound event
  abbrev pub some_has : ℕ → List (EventDef S) → Partial S → Bool
  some_has v [] a = false
  some_has v (ev ∷ evs) [] = false
  some_has v (ev ∷ evs) (o ∷ a) = here_has v ev o || some_has v evs a

  -- a binding that is the same at the variables of a term
  module _ (look small : Binding S) where
    term_moves : (t : Term S) (y : S) → ((v : ℕ) → term_has v t ≡ true → small v ≡ look v) → TermIs look t y → TermIs small t y
    term_moves (Value x) y h k = k
    term_moves (Var u) y h k = h u (elim (eqb_tells u u) [ inl s ↦ s.0 | inr o ↦ absurd (o.1 refl) ]) ∙ k
    term_moves Any y h k = tt

    terms_move : (ts : List (Term S)) (ys : List S) → ((v : ℕ) → terms_have v ts ≡ true → small v ≡ look v) → AllZip (TermIs look) ts ys → AllZip (TermIs small) ts ys
    terms_move [] [] h k = tt
    terms_move [] (y ∷ ys) h k = k
    terms_move (t ∷ ts) [] h k = k
    terms_move (t ∷ ts) (y ∷ ys) h k = (
      term_moves t y (λ v e. h v (or_left (term_has v t) (terms_have v ts) e)) k.0,
      terms_move ts ys (λ v e. h v (or_right (term_has v t) (terms_have v ts) e)) k.1,
    )

    change_moves : (c : Option (Term S × Term S)) (x : Option (S × S)) → ((v : ℕ) → change_has v c ≡ true → small v ≡ look v) → ChangeIs look c x → ChangeIs small c x
    change_moves None None h k = tt
    change_moves None (Some x) h k = k
    change_moves (Some c) None h k = k
    change_moves (Some c) (Some x) h k = (
      term_moves c.0 x.0 (λ v e. h v (or_left (term_has v c.0) (term_has v c.1) e)) k.0,
      term_moves c.1 x.1 (λ v e. h v (or_right (term_has v c.0) (term_has v c.1) e)) k.1,
    )

    pub pattern_moves : (p : Pattern S) (x : Entry S) → ((v : ℕ) → pattern_has v p ≡ true → small v ≡ look v) → PatternIs look p x → PatternIs small p x
    pattern_moves p x h k = record {
      name = k.name;
      terms = terms_move p.terms x.args (λ v e. h v (or_left (terms_have v p.terms) (change_has v p.change) e)) k.terms;
      change = change_moves p.change x.change (λ v e. h v (or_right (terms_have v p.terms) (change_has v p.change) e)) k.change;
    }

  -- two bindings by which a pattern equals an entry are the same at its variables
  module _ (look other : Binding S) where
    term_agrees : (v : ℕ) (t : Term S) (y : S) → term_has v t ≡ true → TermIs look t y → TermIs other t y → look v ≡ other v
    term_agrees v (Value x) y h k l = absurd (true≢false (sym h))
    term_agrees v (Var u) y h k l = elim (eqb_tells u v) [
      | inl s ↦ let e = s.1 in rw (← e) (k ∙ sym l)
      | inr o ↦ absurd (true≢false (sym h ∙ o.0))
    ]
    term_agrees v Any y h k l = absurd (true≢false (sym h))

    terms_agree : (v : ℕ) (ts : List (Term S)) (ys : List S) → terms_have v ts ≡ true → AllZip (TermIs look) ts ys → AllZip (TermIs other) ts ys → look v ≡ other v
    terms_agree v [] ys h k l = absurd (true≢false (sym h))
    terms_agree v (t ∷ ts) [] h k l = absurd k
    terms_agree v (t ∷ ts) (y ∷ ys) h k l = elim (or_cases (term_has v t) (terms_have v ts) h) [
      | inl a ↦ term_agrees v t y a k.0 l.0
      | inr b ↦ terms_agree v ts ys b k.1 l.1
    ]

    change_agrees : (v : ℕ) (c : Option (Term S × Term S)) (x : Option (S × S)) → change_has v c ≡ true → ChangeIs look c x → ChangeIs other c x → look v ≡ other v
    change_agrees v None x h k l = absurd (true≢false (sym h))
    change_agrees v (Some c) None h k l = absurd k
    change_agrees v (Some c) (Some x) h k l = elim (or_cases (term_has v c.0) (term_has v c.1) h) [
      | inl a ↦ term_agrees v c.0 x.0 a k.0 l.0
      | inr b ↦ term_agrees v c.1 x.1 b k.1 l.1
    ]

    pub pattern_agrees : (v : ℕ) (p : Pattern S) (x : Entry S) → pattern_has v p ≡ true → PatternIs look p x → PatternIs other p x → look v ≡ other v
    pattern_agrees v p x h k l = elim (or_cases (terms_have v p.terms) (change_has v p.change) h) [
      | inl a ↦ terms_agree v p.terms x.args a k.terms l.terms
      | inr b ↦ change_agrees v p.change x.change b k.change l.change
    ]

  has_of_event : (v : ℕ) (evs : List (EventDef S)) (a : Partial S) (e : ℕ) (ev : EventDef S) (x : Entry S) → slice_get evs e ≡ Some ev → slice_index_or a e None ≡ Some x → pattern_has v ev.pattern ≡ true → some_has v evs a ≡ true
  has_of_event v [] a e ev x i j h = absurd cc
  has_of_event v (u ∷ evs) [] e ev x i j h = absurd cc
  has_of_event v (u ∷ evs) (None ∷ a) zero ev x i j h = absurd cc
  has_of_event v (u ∷ evs) (Some y ∷ a) zero ev x i j h =
      let s : ev ≡ u = cc in or_left (pattern_has v u.pattern) (some_has v evs a) (ap (λ (w : EventDef S). pattern_has v w.pattern) (sym s) ∙ h)
  has_of_event v (u ∷ evs) (o ∷ a) (suc e) ev x i j h = or_right (here_has v u o) (some_has v evs a) (has_of_event v evs a e ev x i j h)

  -- some bound event has the variable
  pub record Having (v : ℕ) (evs : List (EventDef S)) (a : Partial S) : Type 0 where
    pub event : ℕ
    pub def : EventDef S
    pub entry : Entry S
    pub is : slice_get evs event ≡ Some def
    pub bound : slice_index_or a event None ≡ Some entry
    pub has : pattern_has v def.pattern ≡ true

  pub having : (v : ℕ) (evs : List (EventDef S)) (a : Partial S) → some_has v evs a ≡ true → Having v evs a
  having v [] a h = absurd (true≢false (sym h))
  having v (u ∷ evs) [] h = absurd (true≢false (sym h))
  having v (u ∷ evs) (None ∷ a) h = let r = having v evs a h in record { event = suc r.event; def = r.def; entry = r.entry; is = r.is; bound = r.bound; has = r.has }
  having v (u ∷ evs) (Some y ∷ a) h = elim (or_cases (pattern_has v u.pattern) (some_has v evs a) h) [
    | inl here ↦ record { event = 0; def = u; entry = y; is = refl; bound = refl; has = here }
    | inr there ↦ let r = having v evs a there in record { event = suc r.event; def = r.def; entry = r.entry; is = r.is; bound = r.bound; has = r.has }
  ]

  -- what is bound in a is bound to the same in b
  abbrev pub Extends : Partial S → Partial S → Type 0
  Extends a b = (e : ℕ) (x : Entry S) → at a e ≡ Some x → at b e ≡ Some x

  module _ (c : Chronicle S) (a b : Partial S) (look : Binding S) (equal : EqualsAll c b look) (part : Extends a b) where
    abbrev pub restricted : Binding S
    restricted v = cond (some_has v c.events a) (look v) None

    same_there : (v : ℕ) → some_has v c.events a ≡ true → restricted v ≡ look v
    same_there v h = ap (λ t. cond t (look v) None) h

    equal_at : EqualsAll c a look
    equal_at e = some_if (slice_get c.events e) _ (λ ev i. some_if (at a e) _ (λ x j.
        of_some (at b e) x _ (part e x j) (of_some (slice_get c.events e) ev _ i (equal e))))

    restricted_equal : EqualsAll c a restricted
    restricted_equal e = some_if (slice_get c.events e) _ (λ ev i. some_if (at a e) _ (λ x j.
        pattern_moves look restricted ev.pattern x (λ v h. same_there v (has_of_event v c.events a e ev x i j h))
        (of_some (at a e) x _ j (of_some (slice_get c.events e) ev _ i (equal_at e)))))

    cond_parts : (t : Bool) (o : Option S) (x : S) → cond t o None ≡ Some x → (t ≡ true) × (o ≡ Some x)
    cond_parts true o x e = (refl, e)
    cond_parts false o x e = absurd cc

    pub restricted_looser : Looser restricted look
    restricted_looser v x e = (cond_parts (some_has v c.events a) (look v) x e).1

    pub restricted_least : IsLeast c a restricted
    restricted_least = record {
      equal = restricted_equal;
      least = λ other o v x e.
          let p = cond_parts (some_has v c.events a) (look v) x e in
          let r = having v c.events a p.0 in
          let one = of_some (at a r.event) r.entry _ r.bound (of_some (slice_get c.events r.event) r.def _ r.is (equal_at r.event)) in
          let two = of_some (at a r.event) r.entry _ r.bound (of_some (slice_get c.events r.event) r.def _ r.is (o r.event)) in
          sym (pattern_agrees look other v r.def.pattern r.entry r.has one two) ∙ p.1;
    }

  pub allowed_looser : (c : Chronicle S) (small look : Binding S) → Looser small look → IsAllowed c look → IsAllowed c small
  allowed_looser c small look looser h = record {
    sets = each_from_in _ c.sets (λ s i. some_if (small s.variable) _ (λ x e. of_some (look s.variable) x _ (looser s.variable x e) (in_from_each _ c.sets h.sets s i)));
    differs = each_from_in _ c.differs (λ d i x e f. in_from_each _ c.differs h.differs d i x (looser d.0 x e) (looser d.1 x f));
  }
