-- The statements of the models of a reading are those of its chronicles.
use Rattle.std.proofs.Common.{◌≡◌, ℕ, ℤ, true, false, not, List, [], ◌∷◌, ◌++◌, map, Option, Some, None, option_map, refl, sym, ap, ◌∙◌}
use Rattle.std.specs.Prelude.{bytes_eq, neg_ℤ}
use Rattle.std.specs.List.{AllByRecursion, flat_map, list_any}
use Rattle.std.proofs.Math.IntN.{neg_ℤ-neg_ℤ}
use Rattle.std.proofs.lemmas.List.{map-append}
use Rattle.std.proofs.lemmas.List.Folds.{list_any-append}
use Rattle.std.proofs.lemmas.Bool.{or_parts, or_from, or_left}
use Rattle.crs_base.specs.Symbols.{is_known, text_at}
use Rattle.crs_base.proofs.Alls.{all_left, all_right, all_both}
use Rattle.crs_parse.specs.Faults.{Kind, OfMessage, OfAttribute, OfDerived, Name, Written, Reading, is_of, event_points, is_point, variable_in, variables_in, variables_of, change_terms, lacks, change_lacks, pattern_lacks, body_lacks}
use Rattle.crs_parse.specs.Meant.{points_of, term_of, change_of, pattern_of, body_of, event_of, anchor_of, window_of, emit_of, bounds_of, set_of, differ_of, chronicle_of, name_of, names_that, models_in}
use Rattle.crs_print.specs.CanonicalText.{term_from, change_from, pattern_from, body_from, event_from, anchor_from, window_from, emit_from, points_in, distances_from, name_from, derived_from, chronicle_from, statements_from}
use Rattle.crs_grammar.specs.Statements.{Term, Value, Variable, Any, Pattern, Event, Emission, Anchor, Body, NoEvent, Occurs, Hold, Window, Distance, Begin, Happens, Point, Between, Among, Differ, Over, Emits, Close}
use Rattle.crs_parse.proofs.Faultless.{not_false}
use Rattle.crs_parse.proofs.Places.{place_text}
use Rattle.crs_parse.proofs.Sound.{AreOf, IsWhole}
use Rattle.crs_print.proofs.Again.{statements_of}
use Rattle.crs_print.proofs.GoodReading.{said_kind, said}
use Rattle.crs_print.proofs.Reordered.{sorted}
use Rattle.crs_print.proofs.Normal.{normal_event, normal_anchor, normal_window, normal}

-- what is written of what is meant is what was written
again : {A B C D : Type 0} (P : A → Type 0) (f : B → D) (g : A → B) (k : C → D) (n : A → C) → ((x : A) → P x → f (g x) ≡ k (n x)) → (xs : List A) → AllByRecursion P xs → map f (map g xs) ≡ map k (map n xs)
again P f g k n e [] h = refl
again P f g k n e (x ∷ xs) h = λ i. e x h.0 i ∷ again P f g k n e xs h.1 i

same_again : {A B D : Type 0} (P : A → Type 0) (f : B → D) (g : A → B) (k : A → D) → ((x : A) → P x → f (g x) ≡ k x) → (xs : List A) → AllByRecursion P xs → map f (map g xs) ≡ map k xs
same_again P f g k e [] h = refl
same_again P f g k e (x ∷ xs) h = λ i. e x h.0 i ∷ same_again P f g k e xs h.1 i

module _ (variables : List (List ℕ)) where
  term_again : (t : Term) → lacks variables t ≡ false → term_from variables (term_of variables t) ≡ t
  term_again (Value s) h = refl
  term_again (Variable x) h = ap Variable (place_text variables x (not_false (is_of variables x) h))
  term_again Any h = refl

  terms_again : (ts : List Term) → list_any (lacks variables) ts ≡ false → map (term_from variables) (map (term_of variables) ts) ≡ ts
  terms_again [] h = refl
  terms_again (t ∷ ts) h = let k = or_parts (lacks variables t) (list_any (lacks variables) ts) h in λ i. term_again t k.0 i ∷ terms_again ts k.1 i

  change_again : (c : Option (Term × Term)) → change_lacks variables c ≡ false → change_from variables (change_of variables c) ≡ c
  change_again None h = refl
  change_again (Some c) h = let k = or_parts (lacks variables c.0) (lacks variables c.1) h in λ i. Some (term_again c.0 k.0 i, term_again c.1 k.1 i)

  pattern_again : (q : Pattern) → pattern_lacks variables q ≡ false → pattern_from variables (pattern_of variables q) ≡ q
  pattern_again q h = let k = or_parts (list_any (lacks variables) q.terms) (change_lacks variables q.change) h in λ i. record { name = q.name; terms = terms_again q.terms k.0 i; change = change_again q.change k.1 i }

  body_again : (b : Body) → body_lacks variables b ≡ false → body_from variables (body_of variables b) ≡ b
  body_again (NoEvent q) h = ap NoEvent (pattern_again q h)
  body_again (Occurs least most q) h = ap (Occurs least most) (pattern_again q h)
  body_again (Hold name terms value) h = let k = or_parts (list_any (lacks variables) terms) (lacks variables value) h in λ i. Hold name (terms_again terms k.0 i) (term_again value k.1 i)

  -- where all its variables are there
  term_lacks : (t : Term) → AreOf variables (variable_in t) → lacks variables t ≡ false
  term_lacks (Value s) h = refl
  term_lacks (Variable x) h = ap not h.0
  term_lacks Any h = refl

  terms_lack : (ts : List Term) → AreOf variables (variables_in ts) → list_any (lacks variables) ts ≡ false
  terms_lack [] h = refl
  terms_lack (t ∷ ts) h =
      let P : List ℕ → Type 0 = λ x. is_of variables x ≡ true in
      or_from (lacks variables t) (list_any (lacks variables) ts) (term_lacks t (all_left P (variable_in t) (variables_in ts) h)) (terms_lack ts (all_right P (variable_in t) (variables_in ts) h))

  change_lacks_none : (c : Option (Term × Term)) → AreOf variables (variables_in (change_terms c)) → change_lacks variables c ≡ false
  change_lacks_none None h = refl
  change_lacks_none (Some c) h =
      let P : List ℕ → Type 0 = λ x. is_of variables x ≡ true in
      or_from (lacks variables c.0) (lacks variables c.1) (term_lacks c.0 (all_left P (variable_in c.0) (variable_in c.1 ++ []) h))
      (term_lacks c.1 (all_left P (variable_in c.1) [] (all_right P (variable_in c.0) (variable_in c.1 ++ []) h)))

  pattern_lacks_none : (q : Pattern) → AreOf variables (variables_of q) → pattern_lacks variables q ≡ false
  pattern_lacks_none q h =
      let P : List ℕ → Type 0 = λ x. is_of variables x ≡ true in
      or_from (list_any (lacks variables) q.terms) (change_lacks variables q.change) (terms_lack q.terms (all_left P (variables_in q.terms) (variables_in (change_terms q.change)) h))
      (change_lacks_none q.change (all_right P (variables_in q.terms) (variables_in (change_terms q.change)) h))

  event_again : (e : Event) → AreOf variables (variables_of e.pattern) → event_from variables (event_of variables e) ≡ normal_event e
  event_again e h = ap (λ q. record (normal_event e) { pattern = q }) (pattern_again e.pattern (pattern_lacks_none e.pattern h))

module _ (points : List (List ℕ)) where
  anchor_again : (a : Anchor) → is_known points a.point ≡ true → anchor_from points (anchor_of points a) ≡ normal_anchor a
  anchor_again a h = ap (λ t. record (normal_anchor a) { point = t }) (place_text points a.point h)

  low_again : (o : Option ℤ) → option_map neg_ℤ (option_map neg_ℤ o) ≡ o
  low_again None = refl
  low_again (Some z) = ap Some (neg_ℤ-neg_ℤ z)

  distances_again : (ds : List Distance) → AllByRecursion (λ d. (is_known points d.to ≡ true) × (is_known points d.from ≡ true)) ds → distances_from points (flat_map (bounds_of points) ds) ≡ ds
  distances_again [] h = refl
  distances_again (d ∷ ds) h =
      λ i. record { to = place_text points d.to h.0.0 i; from = place_text points d.from h.0.1 i; low = low_again d.low i; high = d.high } ∷ distances_again ds h.1 i

  window_again : (variables : List (List ℕ)) (w : Window) → body_lacks variables w.body ≡ false → is_known points w.from.point ≡ true → is_known points w.to.point ≡ true
      → window_from variables points (window_of variables points w) ≡ normal_window w
  window_again variables w h f t = λ i. record { body = body_again variables w.body h i; from = anchor_again w.from f i; to = anchor_again w.to t i }

emit_again : (points variables : List (List ℕ)) (e : Emission) → pattern_lacks variables e.pattern ≡ false → is_known points e.point ≡ true → emit_from variables points (emit_of variables points e) ≡ e
emit_again points variables e h k = λ i. record { pattern = pattern_again variables e.pattern h i; point = place_text points e.point k i }

points_are : (variables : List (List ℕ)) (es : List Event) → map (λ e. e.point) (map (event_of variables) es) ≡ map (λ e. e.point) es
points_are variables [] = refl
points_are variables (e ∷ es) = ap (λ l. e.point ∷ l) (points_are variables es)

known_point : (c : Written) (t : List ℕ) → is_point c t ≡ true → is_known (points_of c) t ≡ true
known_point c t h = list_any-append (bytes_eq t) (event_points c) c.free ∙ h

event_point : (c : Written) (t : List ℕ) → is_of (event_points c) t ≡ true → is_known (points_of c) t ≡ true
event_point c t h = known_point c t (or_left (is_of (event_points c) t) (is_of c.free t) h)

-- the statements of a chronicle's meaning
pub chronicle_again : (names : List Name) (d : ℕ × Written) → IsWhole names d.1 → chronicle_from (chronicle_of d) ≡ statements_of (normal d.1)
chronicle_again names d h =
    let c : Written = d.1 in
    let variables : List (List ℕ) = c.variables in
    let points : List (List ℕ) = points_of c in
    let same : points_in (chronicle_of d) ≡ points = ap (λ l. l ++ c.free) (points_are variables c.events) in
    let events : map (λ e. Happens (event_from variables e)) (map (event_of variables) c.events) ≡ map Happens (map normal_event c.events) =
    again _ (λ e. Happens (event_from variables e)) (event_of variables) Happens normal_event (λ e q. ap Happens (event_again variables e q.1)) c.events h.sound.events in
    let bounds : map Between (distances_from (points_in (chronicle_of d)) (flat_map (bounds_of points) c.bounds)) ≡ map Between c.bounds =
    ap (λ p. map Between (distances_from p (flat_map (bounds_of points) c.bounds))) same ∙ ap (map Between) (distances_again points c.bounds (known_bounds c c.bounds h.sound.bounds)) in
    let sets : map (λ s. Among (text_at variables s.variable) s.values) (map (set_of variables) c.sets) ≡ map (λ s. Among s.0 s.1) c.sets =
    same_again _ (λ s. Among (text_at variables s.variable) s.values) (set_of variables) (λ s. Among s.0 s.1) (λ s q. ap (λ x. Among x s.1) (place_text variables s.0 q)) c.sets h.sound.sets in
    let differs : map (λ x. Differ (text_at variables x.0) (text_at variables x.1)) (map (differ_of variables) c.differs) ≡ map (λ x. Differ x.0 x.1) c.differs =
    same_again _ (λ x. Differ (text_at variables x.0) (text_at variables x.1)) (differ_of variables) (λ x. Differ x.0 x.1) (λ x q. λ i. Differ (place_text variables x.0 q.0 i) (place_text variables x.1 q.1 i)) c.differs h.sound.differs in
    let windows : map (λ v. Over (window_from variables (points_in (chronicle_of d)) v)) (map (window_of variables points) c.windows) ≡ map Over (map normal_window c.windows) =
    ap (λ p. map (λ v. Over (window_from variables p v)) (map (window_of variables points) c.windows)) same
    ∙ again _ (λ v. Over (window_from variables points v)) (window_of variables points) Over normal_window
    (λ w q. ap Over (window_again points variables w q.1 (event_point c w.from.point q.0.1) (event_point c w.to.point q.0.2))) c.windows (all_both _ _ c.windows h.sound.windows h.bound) in
    let emits : map (λ e. Emits (emit_from variables (points_in (chronicle_of d)) e)) (map (emit_of variables points) c.emits) ≡ map Emits c.emits =
    ap (λ p. map (λ e. Emits (emit_from variables p e)) (map (emit_of variables points) c.emits)) same
    ∙ same_again _ (λ e. Emits (emit_from variables points e)) (emit_of variables points) Emits
    (λ e q. ap Emits (emit_again points variables e q.1 (event_point c e.point q.0.1))) c.emits (all_both _ _ c.emits h.sound.emits h.bound_emits) in
    λ i. Begin (record { prompt = c.prompt; name = c.name }) ∷ (events i ++ map Point c.free ++ bounds i ++ sets i ++ differs i ++ windows i ++ emits i ++ Close ∷ [])
  where
    known_bounds : (c : Written) (ds : List Distance) → AllByRecursion (λ d. (is_point c d.to ≡ true) × (is_point c d.from ≡ true)) ds → AllByRecursion (λ d. (is_known (points_of c) d.to ≡ true) × (is_known (points_of c) d.from ≡ true)) ds
    known_bounds c [] k = tt
    known_bounds c (d ∷ ds) k = ((known_point c d.to k.0.0, known_point c d.from k.0.1), known_bounds c ds k.1)

-- the declarations of the names that are derived ones, or not, are those that were written
names_again : (ns : List Name) → map name_from (map name_of (names_that false ns)) ≡ map said (names_that false ns)
names_again [] = refl
names_again (n ∷ ns) = by n.name n.arity n.kind (names_again ns)
  where
    by : (name : List ℕ) (arity : ℕ) (k : Kind) → map name_from (map name_of (names_that false ns)) ≡ map said (names_that false ns)
        → map name_from (map name_of (names_that false (record { name = name; arity = arity; kind = k } ∷ ns))) ≡ map said (names_that false (record { name = name; arity = arity; kind = k } ∷ ns))
    by name arity OfMessage e = ap (λ l. said_kind name arity OfMessage ∷ l) e
    by name arity (OfAttribute values) e = ap (λ l. said_kind name arity (OfAttribute values) ∷ l) e
    by name arity OfDerived e = e

derived_again : (ns : List Name) → map derived_from (map name_of (names_that true ns)) ≡ map said (names_that true ns)
derived_again [] = refl
derived_again (n ∷ ns) = by n.name n.arity n.kind (derived_again ns)
  where
    by : (name : List ℕ) (arity : ℕ) (k : Kind) → map derived_from (map name_of (names_that true ns)) ≡ map said (names_that true ns)
        → map derived_from (map name_of (names_that true (record { name = name; arity = arity; kind = k } ∷ ns))) ≡ map said (names_that true (record { name = name; arity = arity; kind = k } ∷ ns))
    by name arity OfMessage e = e
    by name arity (OfAttribute values) e = e
    by name arity OfDerived e = ap (λ l. said_kind name arity OfDerived ∷ l) e

chronicles_again : (names : List Name) (done : List (ℕ × Written)) → AllByRecursion (λ d. IsWhole names d.1) done → flat_map chronicle_from (map chronicle_of done) ≡ flat_map statements_of (map (λ d. normal d.1) done)
chronicles_again names [] h = refl
chronicles_again names (d ∷ done) h = λ i. chronicle_again names d h.0 i ++ chronicles_again names done h.1 i

-- the statements of the models
pub statements_again : (r : Reading) → AllByRecursion (λ d. IsWhole r.names d.1) r.done → statements_from (models_in r) ≡ map said (sorted r.names) ++ flat_map statements_of (map (λ d. normal d.1) r.done)
statements_again r h =
    (λ i. names_again r.names i ++ derived_again r.names i ++ chronicles_again r.names r.done h i)
    ∙ ap (λ l. l ++ flat_map statements_of (map (λ d. normal d.1) r.done)) (sym (map-append said (names_that false r.names) (names_that true r.names)))
