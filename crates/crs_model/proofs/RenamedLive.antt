-- Live partial assignments with other symbols in place of theirs.
use Rattle.std.proofs.Common.{◌≡◌, ◌≢◌, inl, inr, ℕ, zero, suc, ℤ, pos, Bool, true, false, cond, List, [], ◌∷◌, map, length, refl, sym, ap, subst, ◌∙◌, true≢false, arith}
use Rattle.std.specs.Prelude.{Option, Some, None, IfSome, slice_get, option_map}
use Rattle.std.specs.List.{AllByRecursion}
use Rattle.std.proofs.lemmas.List.{length-map}
use Rattle.std.proofs.lemmas.Option.{slice_get-map}
use Rattle.crs_base.specs.Words.{IsIn, Ordered}
use Rattle.crs_base.specs.Entry.{Entry}
use Rattle.crs_base.proofs.Words.{in_map, in_map_back, in_from_each, each_from_in}
use Rattle.crs_stn.specs.Bound.{Agrees}
use Rattle.crs_model.specs.Models.{Term, Value, Var, Any, Pattern, EventDef, Chronicle, Window}
use Rattle.crs_model.specs.Matching.{Binding, Assignment, PatternIs, IsAllowed}
use Rattle.crs_model.specs.Partial.{Partial, at, EqualsAll, IsLeast, IsLevelClosed, IsAwaited, CanGoOn, dates_of}
use Rattle.crs_model.specs.Proper.{IsNamed, term_has, terms_have, change_has, pattern_has}
use Rattle.crs_model.specs.Open.{IsOpen, IsLive, whole}
use Rattle.crs_model.specs.Order.{AreAll}
use Rattle.crs_model.proofs.Offers.{in_whole}
use Rattle.crs_model.specs.Renaming.{renamed_term, renamed_pattern, renamed_event, renamed_window, renamed_chronicle, renamed_entry, renamed_assignment, IsPatternOf, IsBodyOf, IsChronicleOf, IsEntryOf}
use Rattle.crs_model.specs.Verdicts.{IsLost}
use Rattle.crs_model.proofs.Options.{of_some, cases_of}
use Rattle.crs_model.proofs.Least.{some_has, here_has, having, Extends, restricted, restricted_least, pattern_agrees}
use Rattle.crs_model.proofs.Renamed.{renamed_look, pattern_on, IsLookOf, IsGiven, of_pattern, sets_on, sets_back, differs_on, differs_back}
use Rattle.crs_model.proofs.RenamedWindows.{HasNoStar, renamed_partial, at_renamed, lost_on, lost_back, pattern_back}
use Rattle.crs_model.proofs.RenamedAssignments.{same_entry, recognised_on, recognised_back, whole_renamed}

module _ {S : Type 0} (c : Chronicle S) (a : Partial S) (look : Binding S) (l : IsLeast c a look) where
  itself : Extends a a
  itself e x h = h

  abbrev kept : Binding S
  kept = restricted c a a look l.equal itself

  kept_if : (t : Bool) (o : Option S) (x : S) → cond t o None ≡ Some x → t ≡ true
  kept_if true o x e = refl
  kept_if false o x e = absurd cc

  -- a variable that the least binding binds stands in the pattern of a bound event
  pub stands_bound : (v : ℕ) (x : S) → look v ≡ Some x → some_has v c.events a ≡ true
  stands_bound v x e = kept_if (some_has v c.events a) (look v) x (l.least kept (restricted_least c a a look l.equal itself).equal v x e)

-- a binding that binds no other variables is the least
pub least_from : {S : Type 0} (c : Chronicle S) (a : Partial S) (look : Binding S) → EqualsAll c a look → ((v : ℕ) (x : S) → look v ≡ Some x → some_has v c.events a ≡ true) → IsLeast c a look
least_from c a look equal bound = record {
  equal = equal;
  least = λ other o v x e.
      let r = having v c.events a (bound v x e) in
      let one = of_some (at a r.event) r.entry _ r.bound (of_some (slice_get c.events r.event) r.def _ r.is (equal r.event)) in
      let two = of_some (at a r.event) r.entry _ r.bound (of_some (slice_get c.events r.event) r.def _ r.is (o r.event)) in
      sym (pattern_agrees look other v r.def.pattern r.entry r.has one two) ∙ e;
}

module _ {S T : Type 0} (f : S → T) (P : S → Type 0) (apart : (x y : S) → P x → P y → f x ≡ f y → x ≡ y) (c : Chronicle S) (of : IsChronicleOf P c) (named : IsNamed c)
    (stars : AllByRecursion (λ w. HasNoStar w.body) c.windows) where
  -- what is bound, entry by entry
  abbrev IsKnownPart : Partial S → Type 0
  IsKnownPart a = (e : ℕ) (x : Entry S) → at a e ≡ Some x → IsEntryOf P x

  -- a pattern has the same variables
  same_term_has : (v : ℕ) (t : Term S) → term_has v (renamed_term f t) ≡ term_has v t
  same_term_has v (Value x) = refl
  same_term_has v (Var u) = refl
  same_term_has v Any = refl

  same_terms_have : (v : ℕ) (ts : List (Term S)) → terms_have v (map (renamed_term f) ts) ≡ terms_have v ts
  same_terms_have v [] = refl
  same_terms_have v (t ∷ ts) = rw (same_term_has v t, same_terms_have v ts) refl

  same_change_has : (v : ℕ) (o : Option (Term S × Term S)) → change_has v (option_map (λ c. (renamed_term f c.0, renamed_term f c.1)) o) ≡ change_has v o
  same_change_has v None = refl
  same_change_has v (Some t) = rw (same_term_has v t.0, same_term_has v t.1) refl

  same_pattern_has : (v : ℕ) (p : Pattern S) → pattern_has v (renamed_pattern f p) ≡ pattern_has v p
  same_pattern_has v p = rw (same_terms_have v p.terms, same_change_has v p.change) refl

  same_here : (v : ℕ) (ev : EventDef S) (o : Option (Entry S)) → here_has v (renamed_event f ev) (option_map (renamed_entry f) o) ≡ here_has v ev o
  same_here v ev None = refl
  same_here v ev (Some x) = same_pattern_has v ev.pattern

  same_has : (v : ℕ) (evs : List (EventDef S)) (a : Partial S) → some_has v (map (renamed_event f) evs) (renamed_partial f a) ≡ some_has v evs a
  same_has v [] a = refl
  same_has v (ev ∷ evs) [] = refl
  same_has v (ev ∷ evs) (o ∷ a) = rw (same_here v ev o, same_has v evs a) refl

  -- all bound patterns equal their entries
  equal_on : (look : Binding S) (o : Option (EventDef S)) (p : Option (Entry S)) → IfSome o (λ v. IfSome p (λ x. PatternIs look v.pattern x))
      → IfSome (option_map (renamed_event f) o) (λ v. IfSome (option_map (renamed_entry f) p) (λ x. PatternIs (renamed_look f look) v.pattern x))
  equal_on look None p h = tt
  equal_on look (Some v) None h = tt
  equal_on look (Some v) (Some x) h = pattern_on f look v.pattern x h

  equal_back : (look : Binding S) → IsLookOf f P look → (o : Option (EventDef S)) (p : Option (Entry S)) → ((v : EventDef S) → o ≡ Some v → IsPatternOf P v.pattern) → ((x : Entry S) → p ≡ Some x → IsEntryOf P x)
      → IfSome (option_map (renamed_event f) o) (λ v. IfSome (option_map (renamed_entry f) p) (λ x. PatternIs (renamed_look f look) v.pattern x))
      → IfSome o (λ v. IfSome p (λ x. PatternIs look v.pattern x))
  equal_back look k None p m n h = tt
  equal_back look k (Some v) None m n h = tt
  equal_back look k (Some v) (Some x) m n h = pattern_back f P apart look k v.pattern x (m v refl) (n x refl) h

  all_on : (look : Binding S) (a : Partial S) → EqualsAll c a look → EqualsAll (renamed_chronicle f c) (renamed_partial f a) (renamed_look f look)
  all_on look a h e = rw (slice_get-map (renamed_event f) c.events e, at_renamed f a e) (equal_on look (slice_get c.events e) (at a e) (h e))

  pattern_known : (e : ℕ) (v : EventDef S) → slice_get c.events e ≡ Some v → IsPatternOf P v.pattern
  pattern_known e v i = each_at c.events of.patterns e v i
    where
      each_at : (vs : List (EventDef S)) → AllByRecursion (λ v. IsPatternOf P v.pattern) vs → (e : ℕ) (v : EventDef S) → slice_get vs e ≡ Some v → IsPatternOf P v.pattern
      each_at [] h e v i = absurd cc
      each_at (w ∷ vs) h zero v i = let same : w ≡ v = cc in subst (λ (d : EventDef S). IsPatternOf P d.pattern) same h.0
      each_at (w ∷ vs) h (suc e) v i = each_at vs h.1 e v i

  all_back : (look : Binding S) (a : Partial S) → IsLookOf f P look → IsKnownPart a → EqualsAll (renamed_chronicle f c) (renamed_partial f a) (renamed_look f look) → EqualsAll c a look
  all_back look a k known h e = equal_back look k (slice_get c.events e) (at a e) (λ v i. pattern_known e v i) (λ x i. known e x i)
      (rw (slice_get-map (renamed_event f) c.events e, at_renamed f a e) at (h e))

  -- the same of what is bound, and of dates
  none_on : (o : Option (Entry S)) → o ≡ None → option_map (renamed_entry f) o ≡ None
  none_on None e = refl
  none_on (Some x) e = absurd cc

  none_back : (o : Option (Entry S)) → option_map (renamed_entry f) o ≡ None → o ≡ None
  none_back None e = refl
  none_back (Some x) e = absurd cc

  free_on : (a : Partial S) (e : ℕ) → at a e ≡ None → at (renamed_partial f a) e ≡ None
  free_on a e h = at_renamed f a e ∙ none_on (at a e) h

  free_back : (a : Partial S) (e : ℕ) → at (renamed_partial f a) e ≡ None → at a e ≡ None
  free_back a e h = none_back (at a e) (sym (at_renamed f a e) ∙ h)

  twice_on : (o p : Option (Entry S)) → IfSome o (λ x. IfSome p (λ y. x.arrival ≢ y.arrival))
      → IfSome (option_map (renamed_entry f) o) (λ x. IfSome (option_map (renamed_entry f) p) (λ y. x.arrival ≢ y.arrival))
  twice_on None p h = tt
  twice_on (Some x) None h = tt
  twice_on (Some x) (Some y) h = h

  twice_back : (o p : Option (Entry S)) → IfSome (option_map (renamed_entry f) o) (λ x. IfSome (option_map (renamed_entry f) p) (λ y. x.arrival ≢ y.arrival))
      → IfSome o (λ x. IfSome p (λ y. x.arrival ≢ y.arrival))
  twice_back None p h = tt
  twice_back (Some x) None h = tt
  twice_back (Some x) (Some y) h = h

  date_same : (o : Option (Entry S)) → option_map (λ e. pos e.date) (option_map (renamed_entry f) o) ≡ option_map (λ e. pos e.date) o
  date_same None = refl
  date_same (Some x) = refl

  dates_same : (a : Partial S) → dates_of (renamed_partial f a) ≡ dates_of a
  dates_same a = λ i p. (ap (option_map (λ e. pos e.date)) (at_renamed f a p) ∙ date_same (at a p)) i

  size_same : (a : Partial S) → length (renamed_partial f a) ≡ length a
  size_same a = length-map a (option_map (renamed_entry f))

  module _ (level : ℕ → ℕ) (a : Partial S) where
    awaited_on : (e : ℕ) → IsAwaited level a e → IsAwaited level (renamed_partial f a) e
    awaited_on e w = record {
      within = let l = w.within in let s = size_same a in omega arith;
      unbound = free_on a e w.unbound;
      least = λ d l n. w.least d (let s = size_same a in omega arith) (free_back a d n);
    }

    awaited_back : (e : ℕ) → IsAwaited level (renamed_partial f a) e → IsAwaited level a e
    awaited_back e w = record {
      within = let l = w.within in let s = size_same a in omega arith;
      unbound = free_back a e w.unbound;
      least = λ d l n. w.least d (let s = size_same a in omega arith) (free_on a d n);
    }

    go_on_on : (h : ℕ) → CanGoOn c level a h → CanGoOn (renamed_chronicle f c) level (renamed_partial f a) h
    go_on_on h k = (k.0, subst (λ (d : ℕ → Option ℤ). Agrees d k.0) (sym (dates_same a)) k.1, k.2, λ e w. k.3 e (awaited_back e w))

    go_on_back : (h : ℕ) → CanGoOn (renamed_chronicle f c) level (renamed_partial f a) h → CanGoOn c level a h
    go_on_back h k = (k.0, subst (λ (d : ℕ → Option ℤ). Agrees d k.0) (dates_same a) k.1, k.2, λ e w. k.3 e (awaited_on e w))

    closed_on : IsLevelClosed level a → IsLevelClosed level (renamed_partial f a)
    closed_on k e d l m n = free_on a d (k e d (let s = size_same a in omega arith) m (free_back a e n))

    closed_back : IsLevelClosed level (renamed_partial f a) → IsLevelClosed level a
    closed_back k e d l m n = free_back a d (k e d (let s = size_same a in omega arith) m (free_on a e n))

  module _ (pool : List (Entry S)) (pool_known : AllByRecursion (IsEntryOf P) pool) where
    known_given : (a : Partial S) → ((e : ℕ) → IfSome (at a e) (λ x. IsIn x pool)) → IsKnownPart a
    known_given a given e x i = in_from_each (IsEntryOf P) pool pool_known x (of_some (at a e) x _ i (given e))

    given_on : (o : Option (Entry S)) → IfSome o (λ x. IsIn x pool) → IfSome (option_map (renamed_entry f) o) (λ x. IsIn x (map (renamed_entry f) pool))
    given_on None h = tt
    given_on (Some x) h = in_map (renamed_entry f) pool x h

    given_more : (o : Option (Entry S)) (a : Partial S) → IfSome o (λ x. IsIn x pool) → ((e : ℕ) → IfSome (at a e) (λ x. IsIn x pool)) → (e : ℕ) → IfSome (at (o ∷ a) e) (λ x. IsIn x pool)
    given_more o a h k zero = h
    given_more o a h k (suc e) = k e

    -- a partial assignment over the renamed pool comes of one over the pool
    source_of : (b : Partial T) → ((e : ℕ) → IfSome (at b e) (λ x. IsIn x (map (renamed_entry f) pool)))
        → (a : Partial S) × ((e : ℕ) → IfSome (at a e) (λ x. IsIn x pool)) × (b ≡ renamed_partial f a)
    source_of [] h = ([], (λ e. tt), refl)
    source_of (None ∷ b) h =
        let r = source_of b (λ e. h (suc e)) in
        (None ∷ r.0, given_more None r.0 tt r.1, λ i. None ∷ r.2 i)
    source_of (Some y ∷ b) h =
        let m = in_map_back (renamed_entry f) pool y (h 0) in
        let r = source_of b (λ e. h (suc e)) in
        (Some m.0 ∷ r.0, given_more (Some m.0) r.0 m.1 r.1, λ i. Some (m.2 i) ∷ r.2 i)

    -- the variables of bound events have symbols of their entries
    module _ (a : Partial S) (known : IsKnownPart a) where
      symbol_of : (other : Binding T) → EqualsAll (renamed_chronicle f c) (renamed_partial f a) other → (v : ℕ) → some_has v c.events a ≡ true → IsGiven f P other v
      symbol_of other h v e =
          let r = having v c.events a e in
          let i : slice_get (map (renamed_event f) c.events) r.event ≡ Some (renamed_event f r.def) = slice_get-map (renamed_event f) c.events r.event ∙ ap (option_map (renamed_event f)) r.is in
          let j : at (renamed_partial f a) r.event ≡ Some (renamed_entry f r.entry) = at_renamed f a r.event ∙ ap (option_map (renamed_entry f)) r.bound in
          of_pattern f P other v r.def.pattern r.entry (known r.event r.entry r.bound) r.has
          (of_some (at (renamed_partial f a) r.event) (renamed_entry f r.entry) _ j (of_some (slice_get (map (renamed_event f) c.events) r.event) (renamed_event f r.def) _ i (h r.event)))

      look_bound : (look : Binding S) → IsLeast c a look → IsLookOf f P look
      look_bound look l v x e =
          let r = having v c.events a (stands_bound c a look l v x e) in
          let one = of_some (at a r.event) r.entry _ r.bound (of_some (slice_get c.events r.event) r.def _ r.is (l.equal r.event)) in
          let g = of_pattern (λ (y : S). y) P (renamed_look (λ (y : S). y) look) v r.def.pattern r.entry (known r.event r.entry r.bound) r.has
          (pattern_on (λ (y : S). y) look r.def.pattern r.entry one) in
          let i : Some x ≡ Some g.0 = sym e ∙ unrenamed (look v) g.0 g.2 in
          let same : g.0 ≡ x = cc in
          subst P same g.1
        where
          unrenamed : (o : Option S) (y : S) → option_map (λ x. x) o ≡ Some y → o ≡ Some y
          unrenamed None y h = absurd cc
          unrenamed (Some x) y h = h

      least_on : (look : Binding S) → IsLeast c a look → IsLeast (renamed_chronicle f c) (renamed_partial f a) (renamed_look f look)
      least_on look l = least_from (renamed_chronicle f c) (renamed_partial f a) (renamed_look f look) (all_on look a l.equal)
          (λ v y e. same_has v c.events a ∙ stands_bound c a look l v (there (look v) y e).0 (there (look v) y e).1)
        where
          there : (o : Option S) (y : T) → option_map f o ≡ Some y → (x : S) × (o ≡ Some x)
          there None y e = absurd cc
          there (Some x) y e = (x, refl)

      -- the binding whose symbols those of another come of
      module _ (other : Binding T) (l : IsLeast (renamed_chronicle f c) (renamed_partial f a) other) where
        abbrev pick : (v : ℕ) (b : Bool) → some_has v c.events a ≡ b → Option S
        pick v true e = Some (symbol_of other l.equal v e).0
        pick v false e = None

        abbrev source : Binding S
        source v = pick v (some_has v c.events a) refl

        picked : (v : ℕ) (b : Bool) (e : some_has v c.events a ≡ b) → option_map f (pick v b e) ≡ other v
        picked v true e = sym (symbol_of other l.equal v e).2
        picked v false e = elim (cases_of (other v)) [
          | inl n ↦ sym n
          | inr s ↦ absurd (true≢false (sym (stands_bound (renamed_chronicle f c) (renamed_partial f a) other l v s.0 s.1) ∙ same_has v c.events a ∙ e))
        ]

        looks : renamed_look f source ≡ other
        looks = λ i v. picked v (some_has v c.events a) refl i

        pick_known : (v : ℕ) (b : Bool) (e : some_has v c.events a ≡ b) (x : S) → pick v b e ≡ Some x → P x
        pick_known v true e x h = let g = symbol_of other l.equal v e in let same : g.0 ≡ x = cc in subst P same g.1
        pick_known v false e x h = absurd cc

        source_bound : IsLookOf f P source
        source_bound v x h = pick_known v (some_has v c.events a) refl x h

        pick_stands : (v : ℕ) (b : Bool) (e : some_has v c.events a ≡ b) (x : S) → pick v b e ≡ Some x → some_has v c.events a ≡ true
        pick_stands v true e x h = e
        pick_stands v false e x h = absurd cc

        source_equal : EqualsAll c a source
        source_equal = all_back source a source_bound known (subst (EqualsAll (renamed_chronicle f c) (renamed_partial f a)) (sym looks) l.equal)

        source_least : IsLeast c a source
        source_least = least_from c a source source_equal (λ v x h. pick_stands v (some_has v c.events a) refl x h)

    module _ (level : ℕ → ℕ) (entries : List (Entry S)) (settled : AllByRecursion (IsEntryOf P) entries) (h : ℕ) where
      body_of : (w : Window S) → IsIn w c.windows → IsBodyOf P w.body
      body_of w i = in_from_each (λ w. IsBodyOf P w.body) c.windows of.windows w i

      star_of : (w : Window S) → IsIn w c.windows → HasNoStar w.body
      star_of w i = in_from_each (λ w. HasNoStar w.body) c.windows stars w i

      -- what is open is open with the other symbols
      pub open_on : (a : Partial S) → IsOpen c level pool entries h a → IsOpen (renamed_chronicle f c) level (map (renamed_entry f) pool) (map (renamed_entry f) entries) h (renamed_partial f a)
      open_on a o =
          let known = known_given a o.partial.given in
          let bound = look_bound a known o.look o.partial.binding in
          record {
            look = renamed_look f o.look;
            partial = record {
              len = size_same a ∙ o.partial.len ∙ sym (length-map c.events (renamed_event f));
              given = λ e. rw (at_renamed f a e) (given_on (at a e) (o.partial.given e));
              distinct = λ d e n. rw (at_renamed f a d, at_renamed f a e) (twice_on (at a d) (at a e) (o.partial.distinct d e n));
              binding = least_on a known o.look o.partial.binding;
              allowed = record {
                sets = sets_on f P apart o.look c.sets o.partial.allowed.sets;
                differs = differs_on f P apart o.look bound c.differs o.partial.allowed.differs;
              };
            };
            closed = closed_on level a o.closed;
            dates = go_on_on level a h o.dates;
            windows = λ w i lost.
                let v = in_map_back (renamed_window f) c.windows w i in
                let lost' = subst (λ (x : Window T). IsLost (renamed_look f o.look) (renamed_partial f a) (map (renamed_entry f) entries) h x) v.2 lost in
                o.windows v.0 v.1 (lost_back f P apart o.look bound entries settled a h v.0 (body_of v.0 v.1) (star_of v.0 v.1) lost');
          }

      -- and what is open with the other symbols comes of what is open
      open_source : (a : Partial S) → ((e : ℕ) → IfSome (at a e) (λ x. IsIn x pool)) → IsOpen (renamed_chronicle f c) level (map (renamed_entry f) pool) (map (renamed_entry f) entries) h (renamed_partial f a)
          → IsOpen c level pool entries h a
      open_source a given o =
          let known = known_given a given in
          let look = source a known o.look o.partial.binding in
          let is : renamed_look f look ≡ o.look = looks a known o.look o.partial.binding in
          let bound = source_bound a known o.look o.partial.binding in
          let allowed : IsAllowed (renamed_chronicle f c) (renamed_look f look) = subst (IsAllowed (renamed_chronicle f c)) (sym is) o.partial.allowed in
          record {
            look = look;
            partial = record {
              len = sym (size_same a) ∙ o.partial.len ∙ length-map c.events (renamed_event f);
              given = given;
              distinct = λ d e n. twice_back (at a d) (at a e) (rw (at_renamed f a d, at_renamed f a e) at (o.partial.distinct d e n));
              binding = source_least a known o.look o.partial.binding;
              allowed = record {
                sets = sets_back f P apart look bound c.sets of.sets allowed.sets;
                differs = differs_back f P apart look c.differs allowed.differs;
              };
            };
            closed = closed_back level a o.closed;
            dates = go_on_back level a h o.dates;
            windows = λ w i lost.
                let lost' = lost_on f P apart look bound entries settled a h w (body_of w i) (star_of w i) lost in
                o.windows (renamed_window f w) (in_map (renamed_window f) c.windows w i)
                (subst (λ (l : Binding T). IsLost l (renamed_partial f a) (map (renamed_entry f) entries) h (renamed_window f w)) is lost');
          }

      pub open_back : (b : Partial T) → IsOpen (renamed_chronicle f c) level (map (renamed_entry f) pool) (map (renamed_entry f) entries) h b
          → (a : Partial S) × IsOpen c level pool entries h a × (b ≡ renamed_partial f a)
      open_back b o =
          let s = source_of b o.partial.given in
          let o' = subst (IsOpen (renamed_chronicle f c) level (map (renamed_entry f) pool) (map (renamed_entry f) entries) h) s.2 o in
          (s.0, open_source s.0 s.1 o', s.2)

      -- partial assignments that are the same with the other symbols are the same
      same_option : (o p : Option (Entry S)) → ((x : Entry S) → o ≡ Some x → IsEntryOf P x) → ((x : Entry S) → p ≡ Some x → IsEntryOf P x)
          → option_map (renamed_entry f) o ≡ option_map (renamed_entry f) p → o ≡ p
      same_option None None k m e = refl
      same_option None (Some y) k m e = cc
      same_option (Some x) None k m e = cc
      same_option (Some x) (Some y) k m e =
          let pair : renamed_entry f x ≡ renamed_entry f y = cc in
          ap Some (same_entry f P apart c of named stars x y (k x refl) (m y refl) pair)

      pub same_part : (a b : Partial S) → IsKnownPart a → IsKnownPart b → renamed_partial f a ≡ renamed_partial f b → a ≡ b
      same_part [] [] k m e = refl
      same_part [] (p ∷ b) k m e = cc
      same_part (o ∷ a) [] k m e = cc
      same_part (o ∷ a) (p ∷ b) k m e =
          let first : option_map (renamed_entry f) o ≡ option_map (renamed_entry f) p = cc in
          let rest : renamed_partial f a ≡ renamed_partial f b = cc in
          let one : o ≡ p = same_option o p (λ x i. k 0 x i) (λ x i. m 0 x i) first in
          let more : a ≡ b = same_part a b (λ e x i. k (suc e) x i) (λ e x i. m (suc e) x i) rest in
          λ i. one i ∷ more i

      whole_known : (b : Assignment S) → AllByRecursion (λ e. IsIn e pool) b.entries → IsKnownPart (whole b)
      whole_known b given e x i = in_from_each (IsEntryOf P) pool pool_known x (in_from_each (λ d. IsIn d pool) b.entries given x (in_whole b.entries e x i))

      abbrev live_there : Partial T → Type 0
      live_there b = IsLive (renamed_chronicle f c) level (map (renamed_entry f) pool) (map (renamed_entry f) entries) h b

      live_on : (a : Partial S) → IsLive c level pool entries h a → IsLive (renamed_chronicle f c) level (map (renamed_entry f) pool) (map (renamed_entry f) entries) h (renamed_partial f a)
      live_on a l = (
        open_on a l.0,
        λ r.
            let k = recognised_back f P apart c of named stars pool entries h r.0 pool_known settled r.2 in
            let same : renamed_partial f a ≡ renamed_partial f (whole k.0) = r.1 ∙ ap whole k.2 ∙ sym (whole_renamed f P apart c of named stars k.0.entries) in
            l.1 (k.0, same_part a (whole k.0) (known_given a l.0.partial.given) (whole_known k.0 k.1.assignment.given) same, k.1),
      )

      live_back : (b : Partial T) → IsLive (renamed_chronicle f c) level (map (renamed_entry f) pool) (map (renamed_entry f) entries) h b → (a : Partial S) × IsLive c level pool entries h a × (b ≡ renamed_partial f a)
      live_back b l =
          let o = open_back b l.0 in (
            o.0,
            (
              o.1,
              λ r. l.1 (
                renamed_assignment f r.0,
                o.2 ∙ ap (renamed_partial f) r.1 ∙ whole_renamed f P apart c of named stars r.0.entries,
                recognised_on f P apart c of named stars pool entries h r.0 pool_known settled r.2,
              ),
            ),
            o.2,
          )

      -- a list of exactly the live ones, without repeats, is one with the other symbols
      pub live_renamed : (held : List (Partial S)) → AreAll (IsLive c level pool entries h) held
          → AreAll (IsLive (renamed_chronicle f c) level (map (renamed_entry f) pool) (map (renamed_entry f) entries) h) (map (renamed_partial f) held)
      live_renamed held l = record {
        distinct = ordered_members held l.each l.distinct;
        each = λ b i. let m = in_map_back (renamed_partial f) held b i in subst live_there (sym m.2) (live_on m.0 (l.each m.0 m.1));
        all = λ b k. let m = live_back b k in subst (λ z. IsIn z (map (renamed_partial f) held)) (sym m.2) (in_map (renamed_partial f) held m.0 (l.all m.0 m.1));
      }
        where
          ordered_members : (xs : List (Partial S)) → ((a : Partial S) → IsIn a xs → IsLive c level pool entries h a) → Ordered (λ a b. a ≡ b → ⊥) xs → Ordered (λ a b. a ≡ b → ⊥) (map (renamed_partial f) xs)
          ordered_members [] e d = tt
          ordered_members (x ∷ xs) e d = (
            each_from_in _ (map (renamed_partial f) xs) (λ z i same.
                let m = in_map_back (renamed_partial f) xs z i in
                in_from_each (λ y. x ≡ y → ⊥) xs d.0 m.0 m.1
                (same_part x m.0 (known_given x (e x (inl refl)).0.partial.given) (known_given m.0 (e m.0 (inr m.1)).0.partial.given) (same ∙ m.2))),
            ordered_members xs (λ a i. e a (inr i)) d.1,
          )
