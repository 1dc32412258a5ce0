-- Patterns, entries and bindings with other symbols in place of theirs.
use Rattle.std.proofs.Common.{◌≡◌, ◌≢◌, ℕ, zero, suc, ◌<◌, true, false, List, [], ◌∷◌, map, length, refl, sym, ap, subst, inl, inr, arith, eqb-true}
use Rattle.std.specs.Prelude.{Option, Some, None, IfSome, slice_get, option_map}
use Rattle.std.specs.List.{AllZip, AllByRecursion}
use Rattle.std.proofs.lemmas.Option.{slice_get-map}
use Rattle.std.proofs.lemmas.Bool.{or_cases}
use Rattle.crs_base.specs.Words.{IsIn, Ordered}
use Rattle.crs_base.specs.Entry.{Entry}
use Rattle.crs_base.proofs.Words.{in_map, in_map_back, each_from_in, in_from_each}
use Rattle.crs_model.specs.Models.{Term, Value, Var, Any, Pattern, EventDef, VarSet}
use Rattle.crs_model.specs.Matching.{Binding, TermIs, ChangeIs, PatternIs}
use Rattle.crs_model.specs.Partial.{dates_of}
use Rattle.crs_model.specs.Proper.{term_has, terms_have, change_has, pattern_has}
use Rattle.crs_model.specs.Renaming.{renamed_term, renamed_pattern, renamed_event, renamed_set, renamed_entry, IsTermOf, IsPatternOf, IsEntryOf}

pub false_is_not : false ≡ true → ⊥
false_is_not e = cc

pub ordered_back : {A B : Type 0} (R : A → A → Type 0) (Q : B → B → Type 0) (f : A → B) (xs : List A) → ((x y : A) → Q (f x) (f y) → R x y) → Ordered Q (map f xs) → Ordered R xs
ordered_back R Q f [] back h = tt
ordered_back R Q f (x ∷ xs) back h = (each_from_in (R x) xs (λ y i. back x y (in_from_each (Q (f x)) (map f xs) h.0 (f y) (in_map f xs y i))), ordered_back R Q f xs back h.1)

module _ {S T : Type 0} (f : S → T) where
  -- the binding with the other symbols
  abbrev pub renamed_look : Binding S → Binding T
  renamed_look look = λ v. option_map f (look v)

  pub term_on : (look : Binding S) (t : Term S) (y : S) → TermIs look t y → TermIs (renamed_look look) (renamed_term f t) (f y)
  term_on look (Value x) y h = ap f h
  term_on look (Var v) y h = ap (option_map f) h
  term_on look Any y h = tt

  pub terms_on : (look : Binding S) (ts : List (Term S)) (ys : List S) → AllZip (TermIs look) ts ys → AllZip (TermIs (renamed_look look)) (map (renamed_term f) ts) (map f ys)
  terms_on look [] [] h = tt
  terms_on look [] (y ∷ ys) h = h
  terms_on look (t ∷ ts) [] h = h
  terms_on look (t ∷ ts) (y ∷ ys) h = (term_on look t y h.0, terms_on look ts ys h.1)

  pub change_on : (look : Binding S) (t : Option (Term S × Term S)) (x : Option (S × S)) → ChangeIs look t x
      → ChangeIs (renamed_look look) (option_map (λ c. (renamed_term f c.0, renamed_term f c.1)) t) (option_map (λ c. (f c.0, f c.1)) x)
  change_on look None None h = tt
  change_on look None (Some x) h = h
  change_on look (Some t) None h = h
  change_on look (Some t) (Some x) h = (term_on look t.0 x.0 h.0, term_on look t.1 x.1 h.1)

  pub pattern_on : (look : Binding S) (p : Pattern S) (e : Entry S) → PatternIs look p e → PatternIs (renamed_look look) (renamed_pattern f p) (renamed_entry f e)
  pattern_on look p e h = record { name = ap f h.name; terms = terms_on look p.terms e.args h.terms; change = change_on look p.change e.change h.change }

  pub patterns_on : (look : Binding S) (vs : List (EventDef S)) (es : List (Entry S)) → AllZip (λ v e. PatternIs look v.pattern e) vs es
      → AllZip (λ v e. PatternIs (renamed_look look) v.pattern e) (map (renamed_event f) vs) (map (renamed_entry f) es)
  patterns_on look [] [] h = tt
  patterns_on look [] (e ∷ es) h = h
  patterns_on look (v ∷ vs) [] h = h
  patterns_on look (v ∷ vs) (e ∷ es) h = (pattern_on look v.pattern e h.0, patterns_on look vs es h.1)

  -- the entries keep their dates
  pub date_at : (es : List (Entry S)) (p : ℕ) → dates_of (map Some (map (renamed_entry f) es)) p ≡ dates_of (map Some es) p
  date_at [] p = refl
  date_at (e ∷ es) zero = refl
  date_at (e ∷ es) (suc p) = date_at es p

  pub all_dates : (es : List (Entry S)) → dates_of (map Some (map (renamed_entry f) es)) ≡ dates_of (map Some es)
  all_dates es = λ i p. date_at es p i

  pub values_look : (values : List S) → slice_get (map f values) ≡ renamed_look (slice_get values)
  values_look values = λ i v. slice_get-map f values v i

  -- entries that come of others
  pub sources : (pool : List (Entry S)) (row : List (Entry T)) → AllByRecursion (λ e. IsIn e (map (renamed_entry f) pool)) row
      → (es : List (Entry S)) × AllByRecursion (λ e. IsIn e pool) es × (row ≡ map (renamed_entry f) es)
  sources pool [] h = ([], tt, refl)
  sources pool (e ∷ row) h =
      let m = in_map_back (renamed_entry f) pool e h.0 in
      let rest = sources pool row h.1 in
      (m.0 ∷ rest.0, (m.1, rest.1), λ i. m.2 i ∷ rest.2 i)

  module _ (P : S → Type 0) where
    abbrev pub IsLookOf : Binding S → Type 0
    IsLookOf look = (v : ℕ) (x : S) → look v ≡ Some x → P x

    -- a variable that stands in a pattern has a symbol of the entry
    abbrev pub IsGiven : Binding T → ℕ → Type 0
    IsGiven look v = (y : S) × P y × (look v ≡ Some (f y))

    of_term : (look : Binding T) (v : ℕ) (t : Term S) (y : S) → P y → term_has v t ≡ true → TermIs look (renamed_term f t) (f y) → IsGiven look v
    of_term look v (Value x) y p h e = absurd (false_is_not h)
    of_term look v (Var u) y p h e = (y, p, subst (λ w. look w ≡ Some (f y)) (eqb-true u v h) e)
    of_term look v Any y p h e = absurd (false_is_not h)

    of_terms : (look : Binding T) (v : ℕ) (ts : List (Term S)) (ys : List S) → AllByRecursion P ys → terms_have v ts ≡ true → AllZip (TermIs look) (map (renamed_term f) ts) (map f ys) → IsGiven look v
    of_terms look v [] ys p h e = absurd (false_is_not h)
    of_terms look v (t ∷ ts) [] p h e = absurd e
    of_terms look v (t ∷ ts) (y ∷ ys) p h e = elim (or_cases (term_has v t) (terms_have v ts) h) [
      | inl k ↦ of_term look v t y p.0 k e.0
      | inr k ↦ of_terms look v ts ys p.1 k e.1
    ]

    of_change : (look : Binding T) (v : ℕ) (t : Option (Term S × Term S)) (x : Option (S × S)) → IfSome x (λ c. P c.0 × P c.1) → change_has v t ≡ true
        → ChangeIs look (option_map (λ c. (renamed_term f c.0, renamed_term f c.1)) t) (option_map (λ c. (f c.0, f c.1)) x) → IsGiven look v
    of_change look v None x p h e = absurd (false_is_not h)
    of_change look v (Some t) None p h e = absurd e
    of_change look v (Some t) (Some x) p h e = elim (or_cases (term_has v t.0) (term_has v t.1) h) [
      | inl k ↦ of_term look v t.0 x.0 p.0 k e.0
      | inr k ↦ of_term look v t.1 x.1 p.1 k e.1
    ]

    pub of_pattern : (look : Binding T) (v : ℕ) (p : Pattern S) (e : Entry S) → IsEntryOf P e → pattern_has v p ≡ true → PatternIs look (renamed_pattern f p) (renamed_entry f e) → IsGiven look v
    of_pattern look v p e q h k = elim (or_cases (terms_have v p.terms) (change_has v p.change) h) [
      | inl m ↦ of_terms look v p.terms e.args q.args m k.terms
      | inr m ↦ of_change look v p.change e.change q.change m k.change
    ]

    pub of_events : (look : Binding T) (v : ℕ) (vs : List (EventDef S)) (es : List (Entry S)) → AllByRecursion (IsEntryOf P) es
        → AllZip (λ w e. PatternIs look w.pattern e) (map (renamed_event f) vs) (map (renamed_entry f) es)
        → (e : ℕ) (def : EventDef S) → slice_get vs e ≡ Some def → pattern_has v def.pattern ≡ true → IsGiven look v
    of_events look v [] es q z e def i h = absurd (cc)
    of_events look v (w ∷ vs) [] q z e def i h = absurd z
    of_events look v (w ∷ vs) (x ∷ es) q z zero def i h =
        let same : w ≡ def = cc in
        of_pattern look v w.pattern x q.0 (subst (λ d. pattern_has v d.pattern ≡ true) (sym same) h) z.0
    of_events look v (w ∷ vs) (x ∷ es) q z (suc e) def i h = of_events look v vs es q.1 z.1 e def i h

    -- a list of which each place comes of a symbol
    pub list_of : (values : List T) → ((v : ℕ) → v < length values → IsGiven (slice_get values) v) → (ys : List S) × AllByRecursion P ys × (values ≡ map f ys)
    list_of [] h = ([], tt, refl)
    list_of (x ∷ values) h =
        let first = h 0 (omega arith) in
        let rest = list_of values (λ v l. h (suc v) (omega arith)) in
        let e : x ≡ f first.0 = let k : Some x ≡ Some (f first.0) = first.2 in cc in
        (first.0 ∷ rest.0, (first.1, rest.1), λ i. e i ∷ rest.2 i)

    pub look_known : (values : List S) → AllByRecursion P values → IsLookOf (slice_get values)
    look_known [] h v x e = absurd (cc)
    look_known (y ∷ ys) h zero x e = let same : y ≡ x = cc in subst P same h.0
    look_known (y ∷ ys) h (suc v) x e = look_known ys h.1 v x e

  module _ (P : S → Type 0) (apart : (x y : S) → P x → P y → f x ≡ f y → x ≡ y) where
    same_under : (o : Option S) (y : S) → ((x : S) → o ≡ Some x → P x) → P y → option_map f o ≡ Some (f y) → o ≡ Some y
    same_under None y k p h = absurd (cc)
    same_under (Some x) y k p h = let e : f x ≡ f y = cc in ap Some (apart x y (k x refl) p e)

    pub term_back : (look : Binding S) → IsLookOf P look → (t : Term S) (y : S) → IsTermOf P t → P y → TermIs (renamed_look look) (renamed_term f t) (f y) → TermIs look t y
    term_back look k (Value x) y t p h = apart x y t p h
    term_back look k (Var v) y t p h = same_under (look v) y (k v) p h
    term_back look k Any y t p h = tt

    pub terms_back : (look : Binding S) → IsLookOf P look → (ts : List (Term S)) (ys : List S) → AllByRecursion (IsTermOf P) ts → AllByRecursion P ys
        → AllZip (TermIs (renamed_look look)) (map (renamed_term f) ts) (map f ys) → AllZip (TermIs look) ts ys
    terms_back look k [] [] t p h = tt
    terms_back look k [] (y ∷ ys) t p h = h
    terms_back look k (t ∷ ts) [] q p h = h
    terms_back look k (t ∷ ts) (y ∷ ys) q p h = (term_back look k t y q.0 p.0 h.0, terms_back look k ts ys q.1 p.1 h.1)

    pub change_back : (look : Binding S) → IsLookOf P look → (t : Option (Term S × Term S)) (x : Option (S × S)) → IfSome t (λ c. IsTermOf P c.0 × IsTermOf P c.1) → IfSome x (λ c. P c.0 × P c.1)
        → ChangeIs (renamed_look look) (option_map (λ c. (renamed_term f c.0, renamed_term f c.1)) t) (option_map (λ c. (f c.0, f c.1)) x) → ChangeIs look t x
    change_back look k None None q p h = tt
    change_back look k None (Some x) q p h = h
    change_back look k (Some t) None q p h = h
    change_back look k (Some t) (Some x) q p h = (term_back look k t.0 x.0 q.0 p.0 h.0, term_back look k t.1 x.1 q.1 p.1 h.1)

    pub patterns_back : (look : Binding S) → IsLookOf P look → (vs : List (EventDef S)) (es : List (Entry S)) → AllByRecursion (λ v. IsPatternOf P v.pattern) vs → AllByRecursion (IsEntryOf P) es
        → AllZip (λ v e. PatternIs (renamed_look look) v.pattern e) (map (renamed_event f) vs) (map (renamed_entry f) es) → AllZip (λ v e. PatternIs look v.pattern e) vs es
    patterns_back look k [] [] q p h = tt
    patterns_back look k [] (e ∷ es) q p h = h
    patterns_back look k (v ∷ vs) [] q p h = h
    patterns_back look k (v ∷ vs) (e ∷ es) q p h = (
      record {
        name = apart v.pattern.name e.name q.0.name p.0.name h.0.name;
        terms = terms_back look k v.pattern.terms e.args q.0.terms p.0.args h.0.terms;
        change = change_back look k v.pattern.change e.change q.0.change p.0.change h.0.change;
      },
      patterns_back look k vs es q.1 p.1 h.1,
    )

    -- the sets
    set_on : (o : Option S) (xs : List S) → IfSome o (λ x. IsIn x xs) → IfSome (option_map f o) (λ x. IsIn x (map f xs))
    set_on None xs h = tt
    set_on (Some x) xs h = in_map f xs x h

    in_back : (x : S) (xs : List S) → P x → AllByRecursion P xs → IsIn (f x) (map f xs) → IsIn x xs
    in_back x [] p q h = h
    in_back x (y ∷ ys) p q (inl e) = inl (apart x y p q.0 e)
    in_back x (y ∷ ys) p q (inr h) = inr (in_back x ys p q.1 h)

    set_back : (o : Option S) (xs : List S) → ((x : S) → o ≡ Some x → P x) → AllByRecursion P xs → IfSome (option_map f o) (λ x. IsIn x (map f xs)) → IfSome o (λ x. IsIn x xs)
    set_back None xs k q h = tt
    set_back (Some x) xs k q h = in_back x xs (k x refl) q h

    pub sets_on : (look : Binding S) (ss : List (VarSet S)) → AllByRecursion (λ s. IfSome (look s.variable) (λ x. IsIn x s.values)) ss
        → AllByRecursion (λ s. IfSome (renamed_look look s.variable) (λ x. IsIn x s.values)) (map (renamed_set f) ss)
    sets_on look [] h = tt
    sets_on look (s ∷ ss) h = (set_on (look s.variable) s.values h.0, sets_on look ss h.1)

    pub sets_back : (look : Binding S) → IsLookOf P look → (ss : List (VarSet S)) → AllByRecursion (λ s. AllByRecursion P s.values) ss
        → AllByRecursion (λ s. IfSome (renamed_look look s.variable) (λ x. IsIn x s.values)) (map (renamed_set f) ss) → AllByRecursion (λ s. IfSome (look s.variable) (λ x. IsIn x s.values)) ss
    sets_back look k [] q h = tt
    sets_back look k (s ∷ ss) q h = (set_back (look s.variable) s.values (k s.variable) q.0 h.0, sets_back look k ss q.1 h.1)

    -- the pairs that differ
    differ_on : (a b : Option S) → ((x : S) → a ≡ Some x → P x) → ((x : S) → b ≡ Some x → P x) → ((x : S) → a ≡ Some x → b ≢ Some x)
        → (y : T) → option_map f a ≡ Some y → option_map f b ≢ Some y
    differ_on None b k m h y e g = absurd (cc)
    differ_on (Some x) None k m h y e g = absurd (cc)
    differ_on (Some x) (Some z) k m h y e g =
        let same : f x ≡ f z = cc in
        h x refl (ap Some (sym (apart x z (k x refl) (m z refl) same)))

    differ_back : (a b : Option S) → ((y : T) → option_map f a ≡ Some y → option_map f b ≢ Some y) → (x : S) → a ≡ Some x → b ≢ Some x
    differ_back a b h x e g = h (f x) (ap (option_map f) e) (ap (option_map f) g)

    pub differs_on : (look : Binding S) → IsLookOf P look → (ds : List (ℕ × ℕ)) → AllByRecursion (λ d. (x : S) → look d.0 ≡ Some x → look d.1 ≢ Some x) ds
        → AllByRecursion (λ d. (x : T) → renamed_look look d.0 ≡ Some x → renamed_look look d.1 ≢ Some x) ds
    differs_on look k [] h = tt
    differs_on look k (d ∷ ds) h = (differ_on (look d.0) (look d.1) (k d.0) (k d.1) h.0, differs_on look k ds h.1)

    pub differs_back : (look : Binding S) (ds : List (ℕ × ℕ)) → AllByRecursion (λ d. (x : T) → renamed_look look d.0 ≡ Some x → renamed_look look d.1 ≢ Some x) ds
        → AllByRecursion (λ d. (x : S) → look d.0 ≡ Some x → look d.1 ≢ Some x) ds
    differs_back look [] h = tt
    differs_back look (d ∷ ds) h = (differ_back (look d.0) (look d.1) h.0, differs_back look ds h.1)
