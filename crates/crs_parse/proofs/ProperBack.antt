-- Models are proper where they are with other symbols, of which no two are one.
use Rattle.std.proofs.Common.{◌≡◌, ℕ, zero, suc, ◌+◌, ◌≤◌, ◌<◌, ◌||◌, List, [], ◌∷◌, ◌++◌, map, length, Option, Some, None, option_map, refl, sym, ap, subst, ◌∙◌, inl, inr}
use Rattle.std.specs.Prelude.{IfSome, slice_get}
use Rattle.std.specs.List.{AllByRecursion, flat_map}
use Rattle.std.proofs.lemmas.List.{length-map, map-append}
use Rattle.std.proofs.lemmas.Option.{slice_get-map}
use Rattle.crs_base.specs.Words.{IsIn}
use Rattle.crs_base.proofs.Words.{in_append, in_append_left, in_append_right, in_map, in_map_back, in_from_each}
use Rattle.crs_model.specs.Hierarchy.{emitted, wanted, used, AreInOrder}
use Rattle.crs_base.proofs.Alls.{all_append}
use Rattle.crs_base.specs.declared.symbols.Sym.{Sym}
use Rattle.crs_base.specs.Symbols.{AreDistinct}
use Rattle.crs_stn.specs.Bound.{IsWithin}
use Rattle.crs_model.specs.Models.{Term, Value, Var, Any, Pattern, EventDef, Anchor, Body, NoEvent, Occurs, Hold, Window, Emit, Chronicle, Kind, Message, Attribute, Name, Models}
use Rattle.crs_model.specs.Bindings.{TermIsBelow, PatternIsBelow}
use Rattle.crs_model.specs.Proper.{term_has, terms_have, change_has, pattern_has, IsNamed}
use Rattle.crs_model.specs.Renaming.{text_in, renamed_term, renamed_pattern, renamed_event, renamed_set, renamed_body, renamed_window, renamed_emit, renamed_chronicle, renamed_kind, renamed_name, renamed_models, IsPatternOf, IsBodyOf, IsChronicleOf, IsNameOf, AreModelsOf}
use Rattle.crs_model.specs.ProperModels.{IsProperAnchor, IsAttribute, IsDefinite, Suits, Declares, IsDeclared, IsProperBody, IsProperWindow, IsProperEvent, IsProperEmit, IsProperChronicle, AreProper}
use Rattle.crs_parse.proofs.Numbered.{each_back}

at_back : {A B : Type 0} (g : A → B) (xs : List A) (e : ℕ) (y : B) → slice_get (map g xs) e ≡ Some y → (x : A) × (slice_get xs e ≡ Some x) × (g x ≡ y)
at_back g [] e y h = cc
at_back g (x ∷ xs) zero y h = (x, refl, cc)
at_back g (x ∷ xs) (suc e) y h = at_back g xs e y h

module _ {S T : Type 0} (f : S → T) (Q : S → Type 0) (one : (s t : S) → Q s → Q t → f s ≡ f t → s ≡ t) where
  term_below : (n : ℕ) (t : Term S) → TermIsBelow n (renamed_term f t) → TermIsBelow n t
  term_below n (Value s) h = tt
  term_below n (Var v) h = h
  term_below n Any h = tt

  terms_below : (n : ℕ) (ts : List (Term S)) → AllByRecursion (TermIsBelow n) (map (renamed_term f) ts) → AllByRecursion (TermIsBelow n) ts
  terms_below n ts h = each_back _ _ (renamed_term f) ts (term_below n) h

  abbrev both : Term S × Term S → Term T × Term T
  both c = (renamed_term f c.0, renamed_term f c.1)

  change_below : (n : ℕ) (c : Option (Term S × Term S)) → IfSome (option_map both c) (λ c. TermIsBelow n c.0 × TermIsBelow n c.1) → IfSome c (λ c. TermIsBelow n c.0 × TermIsBelow n c.1)
  change_below n None h = tt
  change_below n (Some c) h = (term_below n c.0 h.0, term_below n c.1 h.1)

  pattern_below : (n : ℕ) (q : Pattern S) → PatternIsBelow n (renamed_pattern f q) → PatternIsBelow n q
  pattern_below n q h = (terms_below n q.terms h.0, change_below n q.change h.1)

  suits_back : (k : Kind S) (c : Option (Term S × Term S)) → Suits (renamed_kind f k) (option_map both c) → Suits k c
  suits_back Message None h = tt
  suits_back Message (Some c) h = absurd h
  suits_back (Attribute vs) None h = absurd h
  suits_back (Attribute vs) (Some c) h = tt

  attribute_back : (k : Kind S) → IsAttribute (renamed_kind f k) → IsAttribute k
  attribute_back Message h = absurd h
  attribute_back (Attribute vs) h = tt

  definite_back : (t : Term S) → IsDefinite (renamed_term f t) → IsDefinite t
  definite_back (Value s) h = tt
  definite_back (Var v) h = tt
  definite_back Any h = absurd h

  plain_back : (c : Option (Term S × Term S)) → option_map both c ≡ None → c ≡ None
  plain_back None h = refl
  plain_back (Some c) h = cc

  -- the declaration with the first symbols
  record IsBack (names : List (Name S)) (name : S) (terms : ℕ) (to : Name T) (n : Name S) : Type 0 where
    pub declares : Declares names name terms n
    pub is : to ≡ renamed_name f n

  declares_back : (names : List (Name S)) (name : S) (terms : ℕ) (to : Name T) → AllByRecursion (λ n. Q n.name) names → Q name → Declares (map (renamed_name f) names) (f name) terms to → (n : Name S) × IsBack names name terms to n
  declares_back names name terms to all known h =
      let r = in_map_back (renamed_name f) names to h.among in (
        r.0,
        record {
          declares = record { among = r.1; same = one r.0.name name (in_from_each (λ n. Q n.name) names all r.0 r.1) known (sym (ap (λ n. n.name) r.2) ∙ h.same); arity = sym (ap (λ n. n.arity) r.2) ∙ h.arity };
          is = r.2;
        },
      )

  terms_count : (ts : List (Term S)) → length (map (renamed_term f) ts) ≡ length ts
  terms_count ts = length-map ts (renamed_term f)

  declared_back : (names : List (Name S)) (q : Pattern S) → AllByRecursion (λ n. Q n.name) names → Q q.name → IsDeclared (map (renamed_name f) names) (renamed_pattern f q) → IsDeclared names q
  declared_back names q all known h =
      let r = declares_back names q.name (length (map (renamed_term f) q.terms)) h.0 all known h.1 in
      (r.0, subst (λ n. Declares names q.name n r.0) (terms_count q.terms) r.1.declares, suits_back r.0.kind q.change (subst (λ (n : Name T). Suits n.kind (option_map both q.change)) r.1.is h.2))

  body_back : (names : List (Name S)) (n : ℕ) (b : Body S) → AllByRecursion (λ n. Q n.name) names → IsBodyOf Q b → IsProperBody (map (renamed_name f) names) n (renamed_body f b) → IsProperBody names n b
  body_back names n (NoEvent q) all known h = (declared_back names q all known.name h.0, pattern_below n q h.1)
  body_back names n (Occurs least most q) all known h = (declared_back names q all known.name h.0, pattern_below n q h.1, h.2)
  body_back names n (Hold name terms value) all known h =
      let r = declares_back names name (length (map (renamed_term f) terms)) h.0.0 all known.0 h.0.1 in (
        (
          r.0,
          subst (λ n. Declares names name n r.0) (terms_count terms) r.1.declares,
          (attribute_back r.0.kind (subst (λ (n : Name T). IsAttribute n.kind) r.1.is h.0.2)),
        ),
        terms_below n (value ∷ terms) h.1,
        each_back _ _ (renamed_term f) (value ∷ terms) definite_back h.2,
      )

  same_has : (v : ℕ) (t : Term S) → term_has v (renamed_term f t) ≡ term_has v t
  same_has v (Value s) = refl
  same_has v (Var u) = refl
  same_has v Any = refl

  same_have : (v : ℕ) (ts : List (Term S)) → terms_have v (map (renamed_term f) ts) ≡ terms_have v ts
  same_have v [] = refl
  same_have v (t ∷ ts) = λ i. same_has v t i || same_have v ts i

  same_change : (v : ℕ) (c : Option (Term S × Term S)) → change_has v (option_map both c) ≡ change_has v c
  same_change v None = refl
  same_change v (Some c) = λ i. same_has v c.0 i || same_has v c.1 i

  same_pattern : (v : ℕ) (q : Pattern S) → pattern_has v (renamed_pattern f q) ≡ pattern_has v q
  same_pattern v q = λ i. same_have v q.terms i || same_change v q.change i

  named_back : (c : Chronicle S) → IsNamed (renamed_chronicle f c) → IsNamed c
  named_back c h = record {
    stands = λ v l.
        let r = h.stands v (subst (λ n. v < n) (sym (length-map c.variables f)) l) in
        let b = at_back (renamed_event f) c.events r.0 r.1 r.2 in
        (r.0, b.0, b.1, sym (same_pattern v b.0.pattern) ∙ ap (λ (def : EventDef T). pattern_has v def.pattern) b.2 ∙ r.3);
    below = λ v e def g k. subst (λ n. v < n) (length-map c.variables f)
        (h.below v e (renamed_event f def) (slice_get-map (renamed_event f) c.events e ∙ ap (option_map (renamed_event f)) g) (same_pattern v def.pattern ∙ k));
  }

  anchor_back : (m n : ℕ) (a : Anchor) → m ≡ n → IsProperAnchor m a → IsProperAnchor n a
  anchor_back m n a e h = subst (λ n. IsProperAnchor n a) e h

  chronicle_back : (names : List (Name S)) (c : Chronicle S) → AllByRecursion (λ n. Q n.name) names → IsChronicleOf Q c → IsProperChronicle (map (renamed_name f) names) (renamed_chronicle f c) → IsProperChronicle names c
  chronicle_back names c all known h =
      let events : length (map (renamed_event f) c.events) ≡ length c.events = length-map c.events (renamed_event f) in
      let variables : length (map f c.variables) ≡ length c.variables = length-map c.variables f in
      let windows : length (map (renamed_window f) c.windows) ≡ length c.windows = length-map c.windows (renamed_window f) in
      let points : length (map (renamed_event f) c.events) + length (map f c.free) ≡ length c.events + length c.free = (λ i. events i + length-map c.free f i) in
      record {
        events_some = subst (λ n. 0 < n) events h.events_some;
        events_few = subst (λ n. n ≤ 16) events h.events_few;
        points_few = subst (λ n. n ≤ 24) points h.points_few;
        bounds_few = h.bounds_few;
        variables_few = subst (λ n. n ≤ 16) variables h.variables_few;
        windows_few = subst (λ n. n ≤ 16) windows h.windows_few;
        emits_few = subst (λ n. n ≤ 8) (length-map c.emits (renamed_emit f)) h.emits_few;
        within = subst (λ n. IsWithin n c.bounds) points h.within;
        events = zipped c.events known.patterns (each_back (IsProperEvent (map (renamed_name f) names) (renamed_chronicle f c)) (λ e. IsPatternOf Q e.pattern → IsProperEvent names c e) (renamed_event f) c.events
            (λ e k. λ q. record { declared = declared_back names e.pattern all q.name k.declared; below = subst (λ n. PatternIsBelow n e.pattern) variables (pattern_below (length (map f c.variables)) e.pattern k.below); level = k.level }) h.events);
        named = named_back c h.named;
        sets = each_back _ _ (renamed_set f) c.sets (λ s k. subst (λ n. s.variable < n) variables k) h.sets;
        differs = subst (λ n. AllByRecursion (λ (d : ℕ × ℕ). (d.0 < n) × (d.1 < n)) c.differs) variables h.differs;
        windows = zipped_windows c.windows known.windows (each_back (IsProperWindow (map (renamed_name f) names) (renamed_chronicle f c)) (λ w. IsBodyOf Q w.body → IsProperWindow names c w) (renamed_window f) c.windows
            (λ w k. λ q. record {
              body = subst (λ n. IsProperBody names n w.body) variables (body_back names (length (map f c.variables)) w.body all q k.body);
              from = anchor_back _ _ w.from events k.from;
              to = anchor_back _ _ w.to events k.to;
            }) h.windows);
        emits = zipped_emits c.emits known.emits (each_back (IsProperEmit (map (renamed_name f) names) (renamed_chronicle f c)) (λ e. IsPatternOf Q e.pattern → IsProperEmit names c e) (renamed_emit f) c.emits
            (λ e k. λ q. record {
              declared = declared_back names e.pattern all q.name k.declared;
              plain = plain_back e.pattern.change k.plain;
              below = subst (λ n. PatternIsBelow n e.pattern) variables (pattern_below (length (map f c.variables)) e.pattern k.below);
              definite = each_back _ _ (renamed_term f) e.pattern.terms definite_back k.definite;
              event = subst (λ n. e.event < n) events k.event;
            }) h.emits);
      }
    where
      zipped : (es : List (EventDef S)) → AllByRecursion (λ e. IsPatternOf Q e.pattern) es → AllByRecursion (λ e. IsPatternOf Q e.pattern → IsProperEvent names c e) es → AllByRecursion (IsProperEvent names c) es
      zipped [] k g = tt
      zipped (e ∷ es) k g = (g.0 k.0, zipped es k.1 g.1)

      zipped_emits : (es : List (Emit S)) → AllByRecursion (λ e. IsPatternOf Q e.pattern) es → AllByRecursion (λ e. IsPatternOf Q e.pattern → IsProperEmit names c e) es → AllByRecursion (IsProperEmit names c) es
      zipped_emits [] k g = tt
      zipped_emits (e ∷ es) k g = (g.0 k.0, zipped_emits es k.1 g.1)

      zipped_windows : (ws : List (Window S)) → AllByRecursion (λ w. IsBodyOf Q w.body) ws → AllByRecursion (λ w. IsBodyOf Q w.body → IsProperWindow names c w) ws → AllByRecursion (IsProperWindow names c) ws
      zipped_windows [] k g = tt
      zipped_windows (w ∷ ws) k g = (g.0 k.0, zipped_windows ws k.1 g.1)

  named_all : (ns : List (Name S)) → AllByRecursion (IsNameOf Q) ns → AllByRecursion (λ n. Q n.name) ns
  named_all [] h = tt
  named_all (n ∷ ns) h = (h.0.name, named_all ns h.1)

  chronicles_back : (names : List (Name S)) (cs : List (Chronicle S)) → AllByRecursion (λ n. Q n.name) names → AllByRecursion (IsChronicleOf Q) cs → AllByRecursion (IsProperChronicle (map (renamed_name f) names)) (map (renamed_chronicle f) cs)
      → AllByRecursion (IsProperChronicle names) cs
  chronicles_back names [] all known h = tt
  chronicles_back names (c ∷ cs) all known h = (chronicle_back names c all known.0 h.0, chronicles_back names cs all known.1 h.1)

  -- what feeds another does so with other symbols
  emitted_on : (c : Chronicle S) (x : S) → IsIn x (emitted c) → IsIn (f x) (emitted (renamed_chronicle f c))
  emitted_on c x i = each c.emits i
    where
      each : (es : List (Emit S)) → IsIn x (map (λ e. e.pattern.name) es) → IsIn (f x) (map (λ e. e.pattern.name) (map (renamed_emit f) es))
      each [] i = absurd i
      each (e ∷ es) (inl q) = inl (ap f q)
      each (e ∷ es) (inr i) = inr (each es i)

  wanted_on : (b : Body S) (x : S) → IsIn x (wanted b) → IsIn (f x) (wanted (renamed_body f b))
  wanted_on (NoEvent p) x (inl q) = inl (ap f q)
  wanted_on (NoEvent p) x (inr i) = absurd i
  wanted_on (Occurs least most p) x (inl q) = inl (ap f q)
  wanted_on (Occurs least most p) x (inr i) = absurd i
  wanted_on (Hold name terms value) x i = absurd i

  used_on : (c : Chronicle S) (x : S) → IsIn x (used c) → IsIn (f x) (used (renamed_chronicle f c))
  used_on c x i = elim (in_append (map (λ v. v.pattern.name) c.events) (flat_map (λ w. wanted w.body) c.windows) x i) [
    | inl a ↦ in_append_left (map (λ v. v.pattern.name) (map (renamed_event f) c.events)) (flat_map (λ w. wanted w.body) (map (renamed_window f) c.windows)) (f x) (events c.events a)
    | inr a ↦ in_append_right (map (λ v. v.pattern.name) (map (renamed_event f) c.events)) (flat_map (λ w. wanted w.body) (map (renamed_window f) c.windows)) (f x) (windows c.windows a)
  ]
    where
      events : (es : List (EventDef S)) → IsIn x (map (λ v. v.pattern.name) es) → IsIn (f x) (map (λ v. v.pattern.name) (map (renamed_event f) es))
      events [] i = absurd i
      events (e ∷ es) (inl q) = inl (ap f q)
      events (e ∷ es) (inr i) = inr (events es i)

      windows : (ws : List (Window S)) → IsIn x (flat_map (λ w. wanted w.body) ws) → IsIn (f x) (flat_map (λ w. wanted w.body) (map (renamed_window f) ws))
      windows [] i = absurd i
      windows (w ∷ ws) i = elim (in_append (wanted w.body) (flat_map (λ w. wanted w.body) ws) x i) [
        | inl a ↦ in_append_left (wanted (renamed_body f w.body)) (flat_map (λ w. wanted w.body) (map (renamed_window f) ws)) (f x) (wanted_on w.body x a)
        | inr a ↦ in_append_right (wanted (renamed_body f w.body)) (flat_map (λ w. wanted w.body) (map (renamed_window f) ws)) (f x) (windows ws a)
      ]

  in_order_back : (cs : List (Chronicle S)) → AreInOrder (map (renamed_chronicle f) cs) → AreInOrder cs
  in_order_back [] h = tt
  in_order_back (c ∷ cs) h = ((λ d i feeds. h.0 (renamed_chronicle f d) (in_map (renamed_chronicle f) (c ∷ cs) d i) (f feeds.0, emitted_on d feeds.0 feeds.1, used_on c feeds.0 feeds.2)), in_order_back cs h.1)

  pub models_back : (m : Models S) → AreModelsOf Q m → AreProper (renamed_models f m) → AreProper m
  models_back m known h =
      let both : map (renamed_name f) m.names ++ map (renamed_name f) m.derived ≡ map (renamed_name f) (m.names ++ m.derived) = sym (map-append (renamed_name f) m.names m.derived) in
      record {
        in_order = in_order_back m.chronicles h.in_order;
        names_few = subst (λ n. n ≤ 256) (λ i. length-map m.names (renamed_name f) i + length-map m.derived (renamed_name f) i) h.names_few;
        arities = each_back _ _ (renamed_name f) (m.names ++ m.derived) (λ n k. k) (subst (AllByRecursion (λ (n : Name T). n.arity ≤ 8)) both h.arities);
        chronicles_few = subst (λ n. n ≤ 64) (length-map m.chronicles (renamed_chronicle f)) h.chronicles_few;
        chronicles = chronicles_back (m.names ++ m.derived) m.chronicles (all_append (λ n. Q n.name) m.names m.derived (named_all m.names known.names) (named_all m.derived known.derived)) known.chronicles
            (subst (λ (ns : List (Name T)). AllByRecursion (IsProperChronicle ns) (map (renamed_chronicle f) m.chronicles)) both h.chronicles);
      }

-- the models over the numbers of a table
pub proper_in : (texts : List (List ℕ)) (m : Models Sym) → AreDistinct texts → AreModelsOf (λ (s : Sym). s.0 < length texts) m → AreProper (renamed_models (text_in texts) m) → AreProper m
proper_in texts m distinct known h = models_back (text_in texts) (λ (s : Sym). s.0 < length texts) (λ s t k l e. ap (λ (n : ℕ). record { 0 = n }) (distinct s.0 t.0 k l e)) m known h
