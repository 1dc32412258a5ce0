-- The symbols of the models are numbers of the table.
use Rattle.std.proofs.Common.{◌≡◌, ℕ, zero, suc, ◌<◌, Bool, true, false, cond, List, [], ◌∷◌, ◌++◌, map, length, get_or, Option, Some, None, option_map, sym, subst, arith}
use Rattle.std.specs.Prelude.{IfSome}
use Rattle.std.specs.List.{AllByRecursion}
use Rattle.crs_base.specs.declared.symbols.Sym.{Sym}
use Rattle.crs_base.specs.Symbols.{is_symbol}
use Rattle.crs_model.specs.Models as m
use Rattle.crs_model.specs.Renaming.{text_in, renamed_term, renamed_pattern, renamed_event, renamed_set, renamed_body, renamed_window, renamed_emit, renamed_chronicle, renamed_kind, renamed_name, renamed_models, IsTermOf, IsPatternOf, IsBodyOf, IsChronicleOf, IsKindOf, AreModelsOf}
use Rattle.crs_grammar.specs.Statements.{Term, Value, Variable, Any, Pattern, Body, NoEvent, Occurs, Hold}
use Rattle.crs_parse.specs.Faults.{Kind, OfMessage, OfAttribute, OfDerived, is_derived, Name, Written, Reading}
use Rattle.crs_parse.specs.Meant.{term_of, change_of, pattern_of, event_of, body_of, window_of, emit_of, set_of, points_of, chronicle_of, kind_of, name_of, names_that, models_in}
use Rattle.crs_parse.specs.HeldStatements.{IsHeld, IsHeldTerm, AreHeldTerms, IsHeldPattern, IsHeldBody, IsHeldChronicle, IsHeldKind, IsHeldName, IsHeldReading}

module _ {A B : Type 0} (P : A → Type 0) (Q : B → Type 0) where
  -- what holds of what is made of each
  pub each_made : (f : A → B) (xs : List A) → ((x : A) → P x → Q (f x)) → AllByRecursion P xs → AllByRecursion Q (map f xs)
  each_made f [] h k = tt
  each_made f (x ∷ xs) h k = (h x k.0, each_made f xs h k.1)

  -- and back
  pub each_back : (f : B → A) (xs : List B) → ((x : B) → P (f x) → Q x) → AllByRecursion P (map f xs) → AllByRecursion Q xs
  each_back f [] h k = tt
  each_back f (x ∷ xs) h k = (h x k.0, each_back f xs h k.1)

-- what holds of each name holds of each derived one, and of each other one
pub all_that : (P : Name → Type 0) (b : Bool) (ns : List Name) → AllByRecursion P ns → AllByRecursion P (names_that b ns)
all_that P b [] h = tt
all_that P b (n ∷ ns) h = by (is_derived n.kind) b (all_that P b ns h.1)
  where
    by : (a b : Bool) → AllByRecursion P (names_that b ns) → AllByRecursion P (cond a (cond b (n ∷ []) []) (cond b [] (n ∷ [])) ++ names_that b ns)
    by true true k = (h.0, k)
    by true false k = k
    by false true k = k
    by false false k = (h.0, k)

module _ {S T : Type 0} (f : S → T) (P : T → Type 0) (Q : S → Type 0) (back : (s : S) → P (f s) → Q s) where
  term_back : (t : m.Term S) → IsTermOf P (renamed_term f t) → IsTermOf Q t
  term_back (m.Value s) h = back s h
  term_back (m.Var v) h = tt
  term_back m.Any h = tt

  terms_back : (ts : List (m.Term S)) → AllByRecursion (IsTermOf P) (map (renamed_term f) ts) → AllByRecursion (IsTermOf Q) ts
  terms_back ts h = each_back _ _ (renamed_term f) ts term_back h

  abbrev both : m.Term S × m.Term S → m.Term T × m.Term T
  both c = (renamed_term f c.0, renamed_term f c.1)

  change_back : (c : Option (m.Term S × m.Term S)) → IfSome (option_map both c) (λ c. IsTermOf P c.0 × IsTermOf P c.1) → IfSome c (λ c. IsTermOf Q c.0 × IsTermOf Q c.1)
  change_back None h = tt
  change_back (Some c) h = (term_back c.0 h.0, term_back c.1 h.1)

  pattern_back : (p : m.Pattern S) → IsPatternOf P (renamed_pattern f p) → IsPatternOf Q p
  pattern_back p h = record { name = back p.name h.name; terms = terms_back p.terms h.terms; change = change_back p.change h.change }

  body_back : (b : m.Body S) → IsBodyOf P (renamed_body f b) → IsBodyOf Q b
  body_back (m.NoEvent p) h = pattern_back p h
  body_back (m.Occurs least most p) h = pattern_back p h
  body_back (m.Hold name terms value) h = (back name h.0, terms_back terms h.1, term_back value h.2)

  chronicle_back : (c : m.Chronicle S) → IsChronicleOf P (renamed_chronicle f c) → IsChronicleOf Q c
  chronicle_back c h = record {
    name = back c.name h.name;
    points = each_back _ _ (renamed_event f) c.events (λ e k. back e.point k) h.points;
    patterns = each_back _ _ (renamed_event f) c.events (λ e k. pattern_back e.pattern k) h.patterns;
    free = each_back _ _ f c.free back h.free;
    variables = each_back _ _ f c.variables back h.variables;
    sets = each_back _ _ (renamed_set f) c.sets (λ s k. each_back _ _ f s.values back k) h.sets;
    windows = each_back _ _ (renamed_window f) c.windows (λ w k. body_back w.body k) h.windows;
    emits = each_back _ _ (renamed_emit f) c.emits (λ e k. pattern_back e.pattern k) h.emits;
  }

  kind_back : (k : m.Kind S) → IsKindOf P (renamed_kind f k) → IsKindOf Q k
  kind_back m.Message h = tt
  kind_back (m.Attribute None) h = tt
  kind_back (m.Attribute (Some vs)) h = each_back _ _ f vs back h

  pub models_back : (x : m.Models S) → AreModelsOf P (renamed_models f x) → AreModelsOf Q x
  models_back x h = record {
    names = each_back _ _ (renamed_name f) x.names (λ n k. record { name = back n.name k.name; kind = kind_back n.kind k.kind }) h.names;
    derived = each_back _ _ (renamed_name f) x.derived (λ n k. record { name = back n.name k.name; kind = kind_back n.kind k.kind }) h.derived;
    chronicles = each_back _ _ (renamed_chronicle f) x.chronicles chronicle_back h.chronicles;
  }

module _ (texts : List (List ℕ)) where
  term_made : (variables : List (List ℕ)) (t : Term) → IsHeldTerm texts t → IsTermOf (IsHeld texts) (term_of variables t)
  term_made variables (Value s) h = h
  term_made variables (Variable x) h = tt
  term_made variables Any h = tt

  terms_made : (variables : List (List ℕ)) (ts : List Term) → AreHeldTerms texts ts → AllByRecursion (IsTermOf (IsHeld texts)) (map (term_of variables) ts)
  terms_made variables ts h = each_made _ _ (term_of variables) ts (term_made variables) h

  change_made : (variables : List (List ℕ)) (c : Option (Term × Term)) → IfSome c (λ c. IsHeldTerm texts c.0 × IsHeldTerm texts c.1) → IfSome (change_of variables c) (λ c. IsTermOf (IsHeld texts) c.0 × IsTermOf (IsHeld texts) c.1)
  change_made variables None h = tt
  change_made variables (Some c) h = (term_made variables c.0 h.0, term_made variables c.1 h.1)

  pattern_made : (variables : List (List ℕ)) (p : Pattern) → IsHeldPattern texts p → IsPatternOf (IsHeld texts) (pattern_of variables p)
  pattern_made variables p h = record { name = h.name; terms = terms_made variables p.terms h.terms; change = change_made variables p.change h.change }

  body_made : (variables : List (List ℕ)) (b : Body) → IsHeldBody texts b → IsBodyOf (IsHeld texts) (body_of variables b)
  body_made variables (NoEvent p) h = pattern_made variables p h
  body_made variables (Occurs least most p) h = pattern_made variables p h.0
  body_made variables (Hold name terms value) h = (h.0, terms_made variables terms h.1, term_made variables value h.2)

  chronicle_made : (d : ℕ × Written) → IsHeldChronicle texts d.1 → IsChronicleOf (IsHeld texts) (chronicle_of d)
  chronicle_made d h = record {
    name = h.name;
    points = each_made _ _ (event_of d.1.variables) d.1.events (λ e k. k.point) h.events;
    patterns = each_made _ _ (event_of d.1.variables) d.1.events (λ e k. pattern_made d.1.variables e.pattern k.pattern) h.events;
    free = h.free;
    variables = h.variables;
    sets = each_made _ _ (set_of d.1.variables) d.1.sets (λ s k. k.values) h.sets;
    windows = each_made _ _ (window_of d.1.variables (points_of d.1)) d.1.windows (λ w k. body_made d.1.variables w.body k.body) h.windows;
    emits = each_made _ _ (emit_of d.1.variables (points_of d.1)) d.1.emits (λ e k. pattern_made d.1.variables e.pattern k.pattern) h.emits;
  }

  kind_made : (k : Kind) → IsHeldKind texts k → IsKindOf (IsHeld texts) (kind_of k)
  kind_made OfMessage h = tt
  kind_made (OfAttribute None) h = tt
  kind_made (OfAttribute (Some vs)) h = h
  kind_made OfDerived h = tt

  reading_made : (r : Reading) → IsHeldReading texts r → AreModelsOf (IsHeld texts) (models_in r)
  reading_made r h = record {
    names = each_made _ _ name_of (names_that false r.names) (λ n k. record { name = k.name; kind = kind_made n.kind k.kind }) (all_that (IsHeldName texts) false r.names h.names);
    derived = each_made _ _ name_of (names_that true r.names) (λ n k. record { name = k.name; kind = kind_made n.kind k.kind }) (all_that (IsHeldName texts) true r.names h.names);
    chronicles = each_made _ _ chronicle_of r.done chronicle_made h.done;
  }

  past_end : (ts : List (List ℕ)) (n : ℕ) → is_symbol (get_or ts n []) ≡ true → n < length ts
  past_end [] n h = cc
  past_end (t ∷ ts) zero h = omega arith
  past_end (t ∷ ts) (suc n) h = let k = past_end ts n h in omega (arith, k)

  -- the models of a reading whose symbols are held
  pub numbered_in : (r : Reading) (x : m.Models Sym) → IsHeldReading texts r → renamed_models (text_in texts) x ≡ models_in r → AreModelsOf (λ (s : Sym). s.0 < length texts) x
  numbered_in r x h e = models_back (text_in texts) (IsHeld texts) (λ (s : Sym). s.0 < length texts) (λ s k. past_end texts s.0 k.symbol) x (subst (AreModelsOf (IsHeld texts)) (sym e) (reading_made r h))
