-- Windows with other symbols in place of theirs.
use Rattle.std.proofs.Common.{◌≡◌, inl, inr, ℕ, zero, suc, ◌≤◌, ◌<◌, ℤ, pos, ◌≤ℤ◌, ◌+ℤ◌, List, [], ◌∷◌, map, length, refl, sym, ap, subst}
use Rattle.std.specs.Prelude.{Option, Some, None, IfSome, IsSome, IsSomeAnd, option_map}
use Rattle.std.specs.List.{AllZip, AllByRecursion}
use Rattle.crs_base.specs.Words.{IsIn}
use Rattle.crs_base.specs.Entry.{Entry}
use Rattle.crs_base.specs.Values.{Attribute, IsChange, NewIs, IsLastChange, HasValue}
use Rattle.crs_base.proofs.Words.{in_map, in_map_back, in_from_each}
use Rattle.crs_model.specs.Models.{Term, Value, Var, Any, Pattern, Body, NoEvent, Occurs, Hold, Window, Chronicle, Name}
use Rattle.crs_model.specs.Matching.{Binding, TermIs, PatternIs}
use Rattle.crs_model.specs.Partial.{Partial, at}
use Rattle.crs_model.specs.ProperModels.{IsDefinite, IsProperBody, IsProperWindow}
use Rattle.crs_model.specs.Renaming.{renamed_term, renamed_pattern, renamed_body, renamed_window, renamed_entry, IsTermOf, IsPatternOf, IsBodyOf, IsEntryOf}
use Rattle.crs_model.specs.Verdicts.{Count, IsDatedIn, IsHeld, IsCount, IsSo, IsSpoilt, IsStretch, TermIsBound, PatternIsBound, BodyIsBound, IsMet, IsLost}
use Rattle.crs_model.proofs.Renamed.{renamed_look, term_on, terms_on, pattern_on, IsLookOf, terms_back, change_back}

-- a `hold` has no `*`
abbrev pub HasNoStar : {S : Type 0} → Body S → Type 0
HasNoStar (NoEvent p) = Unit {0}
HasNoStar (Occurs least most p) = Unit {0}
HasNoStar (Hold name terms value) = AllByRecursion IsDefinite (value ∷ terms)

module _ {S T : Type 0} (f : S → T) where
  abbrev pub renamed_attribute : Attribute S → Attribute T
  renamed_attribute a = record { name = f a.name; args = map f a.args }

  abbrev pub renamed_partial : Partial S → Partial T
  renamed_partial a = map (option_map (renamed_entry f)) a

  abbrev pair_on : S × S → T × T
  pair_on c = (f c.0, f c.1)

  pub at_renamed : (a : Partial S) (e : ℕ) → at (renamed_partial a) e ≡ option_map (renamed_entry f) (at a e)
  at_renamed [] e = refl
  at_renamed (x ∷ a) zero = refl
  at_renamed (x ∷ a) (suc e) = at_renamed a e

  -- what a stretch reads of an anchor's entry is its date
  anchored_on : (o : Option (Entry S)) (from offset : ℤ) → IsSomeAnd o (λ e. from ≡ pos e.date +ℤ offset) → IsSomeAnd (option_map (renamed_entry f) o) (λ e. from ≡ pos e.date +ℤ offset)
  anchored_on None from offset h = h
  anchored_on (Some e) from offset h = h

  anchored_back : (o : Option (Entry S)) (from offset : ℤ) → IsSomeAnd (option_map (renamed_entry f) o) (λ e. from ≡ pos e.date +ℤ offset) → IsSomeAnd o (λ e. from ≡ pos e.date +ℤ offset)
  anchored_back None from offset h = h
  anchored_back (Some e) from offset h = h

  pub stretch_on : (a : Partial S) (w : Window S) (from to : ℤ) → IsStretch a w from to → IsStretch (renamed_partial a) (renamed_window f w) from to
  stretch_on a w from to s = record {
    starts = rw (at_renamed a w.from.event) (anchored_on (at a w.from.event) from w.from.offset s.starts);
    ends = rw (at_renamed a w.to.event) (anchored_on (at a w.to.event) to w.to.offset s.ends);
  }

  pub stretch_back : (a : Partial S) (w : Window S) (from to : ℤ) → IsStretch (renamed_partial a) (renamed_window f w) from to → IsStretch a w from to
  stretch_back a w from to s = record {
    starts = anchored_back (at a w.from.event) from w.from.offset (rw (at_renamed a w.from.event) at s.starts);
    ends = anchored_back (at a w.to.event) to w.to.offset (rw (at_renamed a w.to.event) at s.ends);
  }

  -- a bound variable is bound to another symbol
  some_on : (o : Option S) → IsSomeAnd o (λ _. Unit {0}) → IsSomeAnd (option_map f o) (λ _. Unit {0})
  some_on None h = h
  some_on (Some x) h = h

  some_back : (o : Option S) → IsSomeAnd (option_map f o) (λ _. Unit {0}) → IsSomeAnd o (λ _. Unit {0})
  some_back None h = h
  some_back (Some x) h = h

  term_bound_on : (look : Binding S) (t : Term S) → TermIsBound look t → TermIsBound (renamed_look f look) (renamed_term f t)
  term_bound_on look (Value x) h = h
  term_bound_on look (Var v) h = some_on (look v) h
  term_bound_on look Any h = h

  term_bound_back : (look : Binding S) (t : Term S) → TermIsBound (renamed_look f look) (renamed_term f t) → TermIsBound look t
  term_bound_back look (Value x) h = h
  term_bound_back look (Var v) h = some_back (look v) h
  term_bound_back look Any h = h

  terms_bound_on : (look : Binding S) (ts : List (Term S)) → AllByRecursion (TermIsBound look) ts → AllByRecursion (TermIsBound (renamed_look f look)) (map (renamed_term f) ts)
  terms_bound_on look [] h = tt
  terms_bound_on look (t ∷ ts) h = (term_bound_on look t h.0, terms_bound_on look ts h.1)

  terms_bound_back : (look : Binding S) (ts : List (Term S)) → AllByRecursion (TermIsBound (renamed_look f look)) (map (renamed_term f) ts) → AllByRecursion (TermIsBound look) ts
  terms_bound_back look [] h = tt
  terms_bound_back look (t ∷ ts) h = (term_bound_back look t h.0, terms_bound_back look ts h.1)

  change_bound_on : (look : Binding S) (o : Option (Term S × Term S)) → IfSome o (λ c. TermIsBound look c.0 × TermIsBound look c.1)
      → IfSome {T = Term T × Term T} (option_map (λ (c : Term S × Term S). (renamed_term f c.0, renamed_term f c.1)) o) (λ c. TermIsBound (renamed_look f look) c.0 × TermIsBound (renamed_look f look) c.1)
  change_bound_on look None h = tt
  change_bound_on look (Some c) h = (term_bound_on look c.0 h.0, term_bound_on look c.1 h.1)

  change_bound_back : (look : Binding S) (o : Option (Term S × Term S))
      → IfSome {T = Term T × Term T} (option_map (λ (c : Term S × Term S). (renamed_term f c.0, renamed_term f c.1)) o) (λ c. TermIsBound (renamed_look f look) c.0 × TermIsBound (renamed_look f look) c.1)
      → IfSome o (λ c. TermIsBound look c.0 × TermIsBound look c.1)
  change_bound_back look None h = tt
  change_bound_back look (Some c) h = (term_bound_back look c.0 h.0, term_bound_back look c.1 h.1)

  pattern_bound_on : (look : Binding S) (p : Pattern S) → PatternIsBound look p → PatternIsBound (renamed_look f look) (renamed_pattern f p)
  pattern_bound_on look p h = (terms_bound_on look p.terms h.0, change_bound_on look p.change h.1)

  pattern_bound_back : (look : Binding S) (p : Pattern S) → PatternIsBound (renamed_look f look) (renamed_pattern f p) → PatternIsBound look p
  pattern_bound_back look p h = (terms_bound_back look p.terms h.0, change_bound_back look p.change h.1)

  pub bound_on : (look : Binding S) (b : Body S) → BodyIsBound look b → BodyIsBound (renamed_look f look) (renamed_body f b)
  bound_on look (NoEvent p) h = pattern_bound_on look p h
  bound_on look (Occurs least most p) h = pattern_bound_on look p h
  bound_on look (Hold name terms value) h = (terms_bound_on look terms h.0, term_bound_on look value h.1)

  pub bound_back : (look : Binding S) (b : Body S) → BodyIsBound (renamed_look f look) (renamed_body f b) → BodyIsBound look b
  bound_back look (NoEvent p) h = pattern_bound_back look p h
  bound_back look (Occurs least most p) h = pattern_bound_back look p h
  bound_back look (Hold name terms value) h = (terms_bound_back look terms h.0, term_bound_back look value h.1)

  module _ (P : S → Type 0) (apart : (x y : S) → P x → P y → f x ≡ f y → x ≡ y) where
    pub record IsAttributeOf (a : Attribute S) : Type 0 where
      pub name : P a.name
      pub args : AllByRecursion P a.args

    same_list : (xs ys : List S) → AllByRecursion P xs → AllByRecursion P ys → map f xs ≡ map f ys → xs ≡ ys
    same_list [] [] p q e = refl
    same_list [] (y ∷ ys) p q e = cc
    same_list (x ∷ xs) [] p q e = cc
    same_list (x ∷ xs) (y ∷ ys) p q e =
        let first : f x ≡ f y = cc in
        let rest : map f xs ≡ map f ys = cc in
        let a : x ≡ y = apart x y p.0 q.0 first in
        let b : xs ≡ ys = same_list xs ys p.1 q.1 rest in
        λ i. a i ∷ b i

    -- changes and new values
    there_on : (o : Option (S × S)) → IsSome o → IsSome (option_map pair_on o)
    there_on None h = h
    there_on (Some c) h = h

    there_back : (o : Option (S × S)) → IsSome (option_map pair_on o) → IsSome o
    there_back None h = h
    there_back (Some c) h = h

    changes_on : (a : Attribute S) (e : Entry S) → IsChange a e → IsChange (renamed_attribute a) (renamed_entry f e)
    changes_on a e c = record { named = ap f c.named; of = ap (map f) c.of; change = there_on e.change c.change }

    changes_back : (a : Attribute S) (e : Entry S) → IsAttributeOf a → IsEntryOf P e → IsChange (renamed_attribute a) (renamed_entry f e) → IsChange a e
    changes_back a e k q c = record {
      named = apart e.name a.name q.name k.name c.named;
      of = same_list e.args a.args q.args k.args c.of;
      change = there_back e.change c.change;
    }

    brings_on : (v : S) (o : Option (S × S)) → IsSomeAnd o (λ c. c.1 ≡ v) → IsSomeAnd (option_map pair_on o) (λ c. c.1 ≡ f v)
    brings_on v None h = h
    brings_on v (Some c) h = ap f h

    brings_back : (v : S) (o : Option (S × S)) → P v → IfSome o (λ c. P c.0 × P c.1) → IsSomeAnd (option_map pair_on o) (λ c. c.1 ≡ f v) → IsSomeAnd o (λ c. c.1 ≡ v)
    brings_back v None k q h = h
    brings_back v (Some c) k q h = apart c.1 v q.1 k h

    module _ (entries : List (Entry S)) (known : AllByRecursion (IsEntryOf P) entries) where
      known_one : (e : Entry S) → IsIn e entries → IsEntryOf P e
      known_one e i = in_from_each (IsEntryOf P) entries known e i

      last_on : (a : Attribute S) (t : ℤ) (e : Entry S) → IsAttributeOf a → IsLastChange a entries t e → IsLastChange (renamed_attribute a) (map (renamed_entry f) entries) t (renamed_entry f e)
      last_on a t e k l = record {
        given = in_map (renamed_entry f) entries e l.given;
        change = changes_on a e l.change;
        by_then = l.by_then;
        greatest = λ d i c b.
            let m = in_map_back (renamed_entry f) entries d i in
            let c' = subst (IsChange (renamed_attribute a)) m.2 c in
            let b' : pos m.0.date ≤ℤ t = subst (λ (x : Entry T). pos x.date ≤ℤ t) m.2 b in
            let less : m.0.date ≤ e.date = l.greatest m.0 m.1 (changes_back a m.0 k (known_one m.0 m.1) c') b' in
            subst (λ (x : Entry T). x.date ≤ e.date) (sym m.2) less;
      }

      last_back : (a : Attribute S) (t : ℤ) (e : Entry S) → IsAttributeOf a → IsIn e entries → IsLastChange (renamed_attribute a) (map (renamed_entry f) entries) t (renamed_entry f e) → IsLastChange a entries t e
      last_back a t e k i l = record {
        given = i;
        change = changes_back a e k (known_one e i) l.change;
        by_then = l.by_then;
        greatest = λ d j c b. l.greatest (renamed_entry f d) (in_map (renamed_entry f) entries d j) (changes_on a d c) b;
      }

      value_on : (a : Attribute S) (t : ℤ) (v : S) → IsAttributeOf a → HasValue a entries t v → HasValue (renamed_attribute a) (map (renamed_entry f) entries) t (f v)
      value_on a t v k h = record {
        changed = (renamed_entry f h.changed.0, last_on a t h.changed.0 k h.changed.1);
        agreed = λ d l.
            let m = in_map_back (renamed_entry f) entries d l.given in
            let l' = last_back a t m.0 k m.1 (subst (IsLastChange (renamed_attribute a) (map (renamed_entry f) entries) t) m.2 l) in
            subst (NewIs (f v)) (sym m.2) (brings_on v m.0.change (h.agreed m.0 l'));
      }

      value_back : (a : Attribute S) (t : ℤ) (v : S) → IsAttributeOf a → P v → HasValue (renamed_attribute a) (map (renamed_entry f) entries) t (f v) → HasValue a entries t v
      value_back a t v k p h = record {
        changed =
            let m = in_map_back (renamed_entry f) entries h.changed.0 h.changed.1.given in
            (m.0, last_back a t m.0 k m.1 (subst (IsLastChange (renamed_attribute a) (map (renamed_entry f) entries) t) m.2 h.changed.1));
        agreed = λ e l. brings_back v e.change p (known_one e l.given).change (h.agreed (renamed_entry f e) (last_on a t e k l));
      }

    -- terms that equal symbols
    module _ (look : Binding S) (bound : IsLookOf f P look) where
      term_known : (t : Term S) (y : S) → IsDefinite t → IsTermOf P t → TermIs look t y → P y
      term_known (Value x) y d k h = subst P h k
      term_known (Var v) y d k h = bound v y h
      term_known Any y d k h = absurd d

      terms_known : (ts : List (Term S)) (ys : List S) → AllByRecursion IsDefinite ts → AllByRecursion (IsTermOf P) ts → AllZip (TermIs look) ts ys → AllByRecursion P ys
      terms_known [] [] d k h = tt
      terms_known [] (y ∷ ys) d k h = absurd h
      terms_known (t ∷ ts) [] d k h = absurd h
      terms_known (t ∷ ts) (y ∷ ys) d k h = (term_known t y d.0 k.0 h.0, terms_known ts ys d.1 k.1 h.1)

      -- what a term equals under the other symbols comes of a symbol
      of_some : (o : Option S) (z : T) → ((x : S) → o ≡ Some x → P x) → option_map f o ≡ Some z → (y : S) × P y × (o ≡ Some y) × (z ≡ f y)
      of_some None z k h = absurd (cc)
      of_some (Some x) z k h = let e : f x ≡ z = cc in (x, k x refl, refl, sym e)

      term_of : (t : Term S) (z : T) → IsDefinite t → IsTermOf P t → TermIs (renamed_look f look) (renamed_term f t) z → (y : S) × P y × TermIs look t y × (z ≡ f y)
      term_of (Value x) z d k h = (x, k, refl, sym h)
      term_of (Var v) z d k h = of_some (look v) z (bound v) h
      term_of Any z d k h = absurd d

      terms_of : (ts : List (Term S)) (zs : List T) → AllByRecursion IsDefinite ts → AllByRecursion (IsTermOf P) ts → AllZip (TermIs (renamed_look f look)) (map (renamed_term f) ts) zs
          → (ys : List S) × AllByRecursion P ys × AllZip (TermIs look) ts ys × (zs ≡ map f ys)
      terms_of [] [] d k h = ([], tt, tt, refl)
      terms_of [] (z ∷ zs) d k h = absurd h
      terms_of (t ∷ ts) [] d k h = absurd h
      terms_of (t ∷ ts) (z ∷ zs) d k h =
          let first = term_of t z d.0 k.0 h.0 in
          let rest = terms_of ts zs d.1 k.1 h.1 in
          (first.0 ∷ rest.0, (first.1, rest.1), (first.2, rest.2), λ i. first.3 i ∷ rest.3 i)

      pub pattern_back : (p : Pattern S) (e : Entry S) → IsPatternOf P p → IsEntryOf P e → PatternIs (renamed_look f look) (renamed_pattern f p) (renamed_entry f e) → PatternIs look p e
      pattern_back p e k q h = record {
        name = apart p.name e.name k.name q.name h.name;
        terms = terms_back f P apart look bound p.terms e.args k.terms q.args h.terms;
        change = change_back f P apart look bound p.change e.change k.change q.change h.change;
      }

      -- the attribute of a `hold` and its wanted value
      module _ (name : S) (terms : List (Term S)) (value : Term S) (k : IsBodyOf P (Hold name terms value)) (d : AllByRecursion IsDefinite (value ∷ terms)) where
        held_on : (a : Attribute S) (v : S) → IsHeld look name terms value a v → IsHeld (renamed_look f look) (f name) (map (renamed_term f) terms) (renamed_term f value) (renamed_attribute a) (f v)
        held_on a v h = record { name_is = ap f h.name_is; args_are = terms_on f look terms a.args h.args_are; value_is = term_on f look value v h.value_is }

        held_known : (a : Attribute S) (v : S) → IsHeld look name terms value a v → IsAttributeOf a × P v
        held_known a v h = (
          record { name = subst P (sym h.name_is) k.0; args = terms_known terms a.args d.1 k.1 h.args_are },
          term_known value v d.0 k.2 h.value_is,
        )

        held_of : (b : Attribute T) (w : T) → IsHeld (renamed_look f look) (f name) (map (renamed_term f) terms) (renamed_term f value) b w
            → (a : Attribute S) × (v : S) × IsHeld look name terms value a v × (b ≡ renamed_attribute a) × (w ≡ f v)
        held_of b w h =
            let args = terms_of terms b.args d.1 k.1 h.args_are in
            let v = term_of value w d.0 k.2 h.value_is in (
              record { name = name; args = args.0 },
              v.0,
              record { name_is = refl; args_are = args.2; value_is = v.2 },
              (λ i. record { name = h.name_is i; args = args.3 i }),
              v.3,
            )

    module _ (look : Binding S) (bound : IsLookOf f P look) (entries : List (Entry S)) (known : AllByRecursion (IsEntryOf P) entries) where
      -- counts
      module _ (p : Pattern S) (k : IsPatternOf P p) (from to : ℤ) where
        count_on : (es : List (Entry S)) (n : ℕ) → AllByRecursion (IsEntryOf P) es → Count (λ e. IsDatedIn from to e × PatternIs look p e) es n
            → Count (λ e. IsDatedIn from to e × PatternIs (renamed_look f look) (renamed_pattern f p) e) (map (renamed_entry f) es) n
        count_on [] n q h = h
        count_on (e ∷ es) n q (inl h) = inl ((h.0.0, pattern_on f look p e h.0.1), h.1, h.2, count_on es h.1 q.1 h.3)
        count_on (e ∷ es) n q (inr h) = inr ((λ m. h.0 (m.0, pattern_back look bound p e k q.0 m.1)), count_on es n q.1 h.1)

        count_back : (es : List (Entry S)) (n : ℕ) → AllByRecursion (IsEntryOf P) es
            → Count (λ e. IsDatedIn from to e × PatternIs (renamed_look f look) (renamed_pattern f p) e) (map (renamed_entry f) es) n
            → Count (λ e. IsDatedIn from to e × PatternIs look p e) es n
        count_back [] n q h = h
        count_back (e ∷ es) n q (inl h) = inl ((h.0.0, pattern_back look bound p e k q.0 h.0.1), h.1, h.2, count_back es h.1 q.1 h.3)
        count_back (e ∷ es) n q (inr h) = inr ((λ m. h.0 (m.0, pattern_on f look p e m.1)), count_back es n q.1 h.1)

      -- what is wanted is so with the other symbols exactly where it is so
      so_on : (b : Body S) (from to : ℤ) → IsBodyOf P b → HasNoStar b → IsSo entries look b from to → IsSo (map (renamed_entry f) entries) (renamed_look f look) (renamed_body f b) from to
      so_on (NoEvent p) from to k d h = count_on p k from to entries 0 known h
      so_on (Occurs least most p) from to k d h = (h.0, count_on p k from to entries h.0 known h.1, h.2, h.3)
      so_on (Hold name terms value) from to k d h = λ b w held t after until.
          let m = held_of look bound name terms value k d b w held in
          let own = held_known look bound name terms value k d m.0 m.1 m.2 in
          let has = value_on entries known m.0 t m.1 own.0 (h m.0 m.1 m.2 t after until) in
          subst (λ (z : Attribute T). HasValue z (map (renamed_entry f) entries) t w) (sym m.3)
          (subst (HasValue (renamed_attribute m.0) (map (renamed_entry f) entries) t) (sym m.4) has)

      so_back : (b : Body S) (from to : ℤ) → IsBodyOf P b → HasNoStar b → IsSo (map (renamed_entry f) entries) (renamed_look f look) (renamed_body f b) from to → IsSo entries look b from to
      so_back (NoEvent p) from to k d h = count_back p k from to entries 0 known h
      so_back (Occurs least most p) from to k d h = (h.0, count_back p k from to entries h.0 known h.1, h.2, h.3)
      so_back (Hold name terms value) from to k d h = λ a v held t after until.
          let own = held_known look bound name terms value k d a v held in
          value_back entries known a t v own.0 own.1 (h (renamed_attribute a) (f v) (held_on look bound name terms value k d a v held) t after until)

      -- the same of what spoils it
      above_on : (o : Option ℕ) (p : Pattern S) (from to : ℤ) → IsPatternOf P p → IsSomeAnd o (λ m. (n : ℕ) → IsCount entries look p from to n → m < n)
          → IsSomeAnd o (λ m. (n : ℕ) → IsCount (map (renamed_entry f) entries) (renamed_look f look) (renamed_pattern f p) from to n → m < n)
      above_on None p from to k h = h
      above_on (Some m) p from to k h = λ n c. h n (count_back p k from to entries n known c)

      above_back : (o : Option ℕ) (p : Pattern S) (from to : ℤ) → IsPatternOf P p
          → IsSomeAnd o (λ m. (n : ℕ) → IsCount (map (renamed_entry f) entries) (renamed_look f look) (renamed_pattern f p) from to n → m < n)
          → IsSomeAnd o (λ m. (n : ℕ) → IsCount entries look p from to n → m < n)
      above_back None p from to k h = h
      above_back (Some m) p from to k h = λ n c. h n (count_on p k from to entries n known c)

      spoilt_on : (b : Body S) (from to h : ℤ) → IsBodyOf P b → HasNoStar b → IsSpoilt entries look b from to h → IsSpoilt (map (renamed_entry f) entries) (renamed_look f look) (renamed_body f b) from to h
      spoilt_on (NoEvent p) from to h k d s = λ c. s (count_back p k from to entries 0 known c)
      spoilt_on (Occurs least most p) from to h k d s = above_on most p from to k s
      spoilt_on (Hold name terms value) from to h k d (a, v, held, inl u) =
          let own = held_known look bound name terms value k d a v held in (
            renamed_attribute a,
            f v,
            held_on look bound name terms value k d a v held,
            inl (u.0, u.1, u.2, u.3, λ has. u.4 (value_back entries known a u.0 v own.0 own.1 has)),
          )
      spoilt_on (Hold name terms value) from to h k d (a, v, held, inr c) =
          let own = held_known look bound name terms value k d a v held in (
            renamed_attribute a,
            f v,
            held_on look bound name terms value k d a v held,
            inr (
              renamed_entry f c.0,
              in_map (renamed_entry f) entries c.0 c.1,
              changes_on a c.0 c.2,
              c.3,
              λ new. c.4 (brings_back v c.0.change own.1 (known_one entries known c.0 c.1).change new),
            ),
          )

      spoilt_back : (b : Body S) (from to h : ℤ) → IsBodyOf P b → HasNoStar b → IsSpoilt (map (renamed_entry f) entries) (renamed_look f look) (renamed_body f b) from to h → IsSpoilt entries look b from to h
      spoilt_back (NoEvent p) from to h k d s = λ c. s (count_on p k from to entries 0 known c)
      spoilt_back (Occurs least most p) from to h k d s = above_back most p from to k s
      spoilt_back (Hold name terms value) from to h k d (b, w, held, inl u) =
          let m = held_of look bound name terms value k d b w held in
          let own = held_known look bound name terms value k d m.0 m.1 m.2 in (
            m.0,
            m.1,
            m.2,
            inl (
              u.0,
              u.1,
              u.2,
              u.3,
              λ has. u.4
                  (subst (λ (z : Attribute T). HasValue z (map (renamed_entry f) entries) u.0 w) (sym m.3)
                  (subst (HasValue (renamed_attribute m.0) (map (renamed_entry f) entries) u.0) (sym m.4) (value_on entries known m.0 u.0 m.1 own.0 has))),
            ),
          )
      spoilt_back (Hold name terms value) from to h k d (b, w, held, inr c) =
          let m = held_of look bound name terms value k d b w held in
          let own = held_known look bound name terms value k d m.0 m.1 m.2 in
          let e = in_map_back (renamed_entry f) entries c.0 c.1 in
          let changed : IsChange (renamed_attribute m.0) (renamed_entry f e.0) = subst (λ (z : Attribute T). IsChange z (renamed_entry f e.0)) m.3 (subst (IsChange b) e.2 c.2) in (
            m.0,
            m.1,
            m.2,
            inr (
              e.0,
              e.1,
              changes_back m.0 e.0 own.0 (known_one entries known e.0 e.1) changed,
              subst (IsDatedIn from to) e.2 c.3,
              λ new. c.4 (subst (NewIs w) (sym e.2) (subst (λ (z : T). NewIs z (renamed_entry f e.0)) (sym m.4) (brings_on m.1 e.0.change new))),
            ),
          )

      -- windows are met, and lost, with the other symbols exactly where they are
      module _ (a : Partial S) (h : ℕ) (w : Window S) (k : IsBodyOf P w.body) (d : HasNoStar w.body) where
        pub met_on : IsMet look a entries h w → IsMet (renamed_look f look) (renamed_partial a) (map (renamed_entry f) entries) h (renamed_window f w)
        met_on m = record {
          from = m.from;
          to = m.to;
          stretch = stretch_on a w m.from m.to m.stretch;
          bound = bound_on look w.body m.bound;
          settled = m.settled;
          so = so_on w.body m.from m.to k d m.so;
        }

        pub met_back : IsMet (renamed_look f look) (renamed_partial a) (map (renamed_entry f) entries) h (renamed_window f w) → IsMet look a entries h w
        met_back m = record {
          from = m.from;
          to = m.to;
          stretch = stretch_back a w m.from m.to m.stretch;
          bound = bound_back look w.body m.bound;
          settled = m.settled;
          so = so_back w.body m.from m.to k d m.so;
        }

        pub lost_on : IsLost look a entries h w → IsLost (renamed_look f look) (renamed_partial a) (map (renamed_entry f) entries) h (renamed_window f w)
        lost_on m = record {
          from = m.from;
          to = m.to;
          stretch = stretch_on a w m.from m.to m.stretch;
          bound = bound_on look w.body m.bound;
          lost = elim m.lost [
            | inl s ↦ inl (s.0, λ so. s.1 (so_back w.body m.from m.to k d so))
            | inr s ↦ inr (s.0, spoilt_on w.body m.from m.to (pos h) k d s.1)
          ];
        }

        pub lost_back : IsLost (renamed_look f look) (renamed_partial a) (map (renamed_entry f) entries) h (renamed_window f w) → IsLost look a entries h w
        lost_back m = record {
          from = m.from;
          to = m.to;
          stretch = stretch_back a w m.from m.to m.stretch;
          bound = bound_back look w.body m.bound;
          lost = elim m.lost [
            | inl s ↦ inl (s.0, λ so. s.1 (so_on w.body m.from m.to k d so))
            | inr s ↦ inr (s.0, spoilt_back w.body m.from m.to (pos h) k d s.1)
          ];
        }

-- what a proper window holds has no `*`
no_star : {S : Type 0} (names : List (Name S)) (n : ℕ) (b : Body S) → IsProperBody names n b → HasNoStar b
no_star names n (NoEvent p) h = tt
no_star names n (Occurs least most p) h = tt
no_star names n (Hold name terms value) h = h.2

pub no_stars : {S : Type 0} (names : List (Name S)) (c : Chronicle S) (ws : List (Window S)) → AllByRecursion (IsProperWindow names c) ws → AllByRecursion (λ w. HasNoStar w.body) ws
no_stars names c [] h = tt
no_stars names c (w ∷ ws) h = (no_star names (length c.variables) w.body h.0.body, no_stars names c ws h.1)
