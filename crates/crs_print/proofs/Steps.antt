-- The statements of a good chronicle, group behind group, have no fault, and give the chronicle.
use Rattle.std.proofs.Common.{◌≡◌, ℕ, ◌+◌, ◌<◌, Bool, true, false, ◌||◌, nat_lt, nat_le, List, [], ◌∷◌, ◌++◌, map, length, refl, sym, ap, subst, ◌∙◌, true≢false, append_assoc, length-append, arith}
use Rattle.std.specs.Prelude.{bytes_eq}
use Rattle.std.specs.List.{AllByRecursion, flat_map, list_any}
use Rattle.std.proofs.lemmas.Bool.{lt-leb, le-ltb, or_from}
use Rattle.std.proofs.lemmas.Grind.{flat_map-append}
use Rattle.std.proofs.lemmas.List.{map-append, append-nil}
use Rattle.std.proofs.lemmas.List.Folds.{list_any-append}
use Rattle.crs_grammar.specs.Canon.{is_indented}
use Rattle.crs_parse.specs.Faults.{Name, Written, is_of, event_points, variables_of, is_above, is_full, with_statement, begun, passes_count, is_twice, is_looped, emits, uses, body_names, lacks_events, is_unbound}
use Rattle.crs_grammar.specs.Statements.{Event, Emission, Body, NoEvent, Occurs, Hold, Window, Distance, Statement, Happens, Point, Between, Among, Differ, Over, Emits, Close}
use Rattle.crs_base.proofs.Texts.{same_bytes}
use Rattle.crs_parse.proofs.Apart.{IsApart}
use Rattle.crs_parse.proofs.Faultless.{IsFaultless}
use Rattle.crs_parse.proofs.Texts.{with_texts_append, texts_grow}
use Rattle.crs_base.proofs.DistinctTexts.{Distinct, behind_new}
use Rattle.crs_print.proofs.Good.{IsFit, IsFine, IsGood, fine_in, heading_of}
use Rattle.crs_base.specs.Symbols.{with_texts}

-- the chronicle behind some statements
abbrev pub with_all : Written → List Statement → Written
with_all c [] = c
with_all c (s ∷ ss) = with_all (with_statement c s) ss

-- the statements of a chronicle without those that begin and close it: events, free points, bounds, sets, differences, windows and emits
abbrev pub body_of : Written → List Statement
body_of c = map Happens c.events ++ map Point c.free ++ map Between c.bounds ++ map (λ s. Among s.0 s.1) c.sets ++ map (λ d. Differ d.0 d.1) c.differs ++ map Over c.windows ++ map Emits c.emits

module _ (texts : List (List ℕ)) (names : List Name) (done : List (ℕ × Written)) where
  -- each statement can be written, and no word applies to it
  abbrev pub Steps : Written → List Statement → Type 0
  Steps c [] = Unit {0}
  Steps c (s ∷ ss) = IsFit texts s × IsFaultless false names done c s × (is_indented s ≡ true) × Steps (with_statement c s) ss

  pub record Leads (c : Written) (ss : List Statement) (d : Written) : Type 0 where
    pub steps : Steps c ss
    pub end : with_all c ss ≡ d

  steps_then : (xs ys : List Statement) (c : Written) → Steps c xs → Steps (with_all c xs) ys → Steps c (xs ++ ys)
  steps_then [] ys c h k = k
  steps_then (x ∷ xs) ys c h k = (h.0, h.1, h.2, steps_then xs ys (with_statement c x) h.3 k)

  end_then : (xs ys : List Statement) (c : Written) → with_all c (xs ++ ys) ≡ with_all (with_all c xs) ys
  end_then [] ys c = refl
  end_then (x ∷ xs) ys c = end_then xs ys (with_statement c x)

  leads_then : (xs ys : List Statement) (c d e : Written) → Leads c xs d → Leads d ys e → Leads c (xs ++ ys) e
  leads_then xs ys c d e h k = record {
    steps = steps_then xs ys c h.steps (subst (λ x. Steps x ys) (sym h.end) k.steps);
    end = end_then xs ys c ∙ ap (λ x. with_all x ys) h.end ∙ k.end;
  }

  -- a group of statements of one form
  module _ {X : Type 0} (f : X → Statement) (P : X → Type 0) (at : List X → Written) (all : List X)
      (next : (xs : List X) (x : X) → with_statement (at xs) (f x) ≡ at (xs ++ x ∷ []))
      (step : (xs : List X) (x : X) (ys : List X) → xs ++ x ∷ ys ≡ all → P x → IsFaultless false names done (at xs) (f x))
      (fit : (x : X) → P x → IsFit texts (f x)) (plain : (x : X) → is_indented (f x) ≡ true) where
    group : (ys xs : List X) → xs ++ ys ≡ all → AllByRecursion P ys → Leads (at xs) (map f ys) (at all)
    group [] xs e h = record { steps = tt; end = ap at (sym (append-nil xs) ∙ e) }
    group (x ∷ ys) xs e h =
        let r = group ys (xs ++ x ∷ []) (append_assoc xs (x ∷ []) ys ∙ e) h.1 in
        record {
          steps = (fit x h.0, step xs x ys e h.0, plain x, subst (λ c. Steps c (map f ys)) (sym (next xs x)) r.steps);
          end = ap (λ c. with_all c (map f ys)) (next xs x) ∙ r.end;
        }

  shorter : {X : Type 0} (xs : List X) (x : X) (ys all : List X) → xs ++ x ∷ ys ≡ all → length xs < length all
  shorter xs x ys all e = let a = length-append xs (x ∷ ys) in let b = ap length e in omega (arith, a, b)

  plain_events : (c : Written) (s : Statement) → is_indented s ≡ true → lacks_events c s ≡ false
  plain_events c Close h = absurd (true≢false (sym h))
  plain_events c _ h = refl

  plain_unbound : (c : Written) (s : Statement) → is_indented s ≡ true → is_unbound c s ≡ false
  plain_unbound c Close h = absurd (true≢false (sym h))
  plain_unbound c _ h = refl

  faultless_of : (c : Written) (s : Statement) → is_indented s ≡ true → IsFine texts names c s → is_twice names done c s ≡ false → passes_count names done c s ≡ false → is_looped done c s ≡ false → IsFaultless false names done c s
  faultless_of c s h k twice count unlooped = record {
    twice = twice;
    name = k.suited.name;
    arity = k.suited.arity;
    value = k.suited.value;
    variable = k.variable;
    point = k.point;
    bound = k.bound;
    window = k.window;
    count = count;
    room = refl;
    unlooped = unlooped;
    events = plain_events c s h;
    unbound = plain_unbound c s h;
  }

  not_true : (b : Bool) → (b ≡ true → ⊥) → b ≡ false
  not_true true f = absurd (f refl)
  not_true false f = refl

  -- what is between others is among them
  among : (xs ys : List (List ℕ)) (t : List ℕ) → is_of (xs ++ t ∷ ys) t ≡ true
  among xs ys t = list_any-append (bytes_eq t) xs (t ∷ ys) ∙ by (is_of xs t) (bytes_eq t t) (same_bytes t)
    where
      by : (a b : Bool) → b ≡ true → (a || (b || is_of ys t)) ≡ true
      by true b e = refl
      by false b e = ap (λ x. x || is_of ys t) e

  none_uses : (ds : List (ℕ × Written)) (c : Written) (t : List ℕ) → AllByRecursion (λ d. IsApart d c) (map (λ d. d.1) ds) → emits c t ≡ true → list_any (λ d. uses d.1 t) ds ≡ false
  none_uses [] c t k e = refl
  none_uses (d ∷ ds) c t k e = or_from (uses d.1 t) (list_any (λ d. uses d.1 t) ds) (not_true (uses d.1 t) (k.0 t e)) (none_uses ds c t k.1 e)

  module _ (c : Written) (h : IsGood texts names c) (own : IsApart c c) (above : AllByRecursion (λ d. IsApart d c) (map (λ d. d.1) done)) where
    abbrev from : List Event → List (List ℕ)
    from es = flat_map (λ e. variables_of e.pattern) es

    -- the chronicle with some of its events, and with all of them and some free points, and so on
    abbrev with_events : List Event → Written
    with_events es = record (begun (heading_of c)) { events = es; variables = with_texts [] (from es) }

    abbrev with_free : List (List ℕ) → Written
    with_free ts = record (begun (heading_of c)) { events = c.events; variables = c.variables; free = ts }

    abbrev with_bounds : List Distance → Written
    with_bounds ds = record (with_free c.free) { bounds = ds }

    abbrev with_sets : List (List ℕ × List (List ℕ)) → Written
    with_sets ss = record (with_bounds c.bounds) { sets = ss }

    abbrev with_differs : List (List ℕ × List ℕ) → Written
    with_differs ds = record (with_sets c.sets) { differs = ds }

    abbrev with_windows : List Window → Written
    with_windows ws = record (with_differs c.differs) { windows = ws }

    abbrev with_emits : List Emission → Written
    with_emits es = record (with_windows c.windows) { emits = es }

    -- nothing is emitted before the emits
    unlooped_window : (ws : List Window) (b : Body) → list_any (emits (with_windows ws)) (body_names b) ≡ false
    unlooped_window ws (NoEvent p) = refl
    unlooped_window ws (Occurs least most p) = refl
    unlooped_window ws (Hold name terms value) = refl

    -- and what is emitted then is used neither here nor above
    unlooped_emit : (es : List Emission) (e : Emission) (vs : List Emission) → es ++ e ∷ vs ≡ c.emits → is_looped done (with_emits es) (Emits e) ≡ false
    unlooped_emit es e vs is =
        let given : emits c e.pattern.name ≡ true =
        ap (λ l. is_of (map (λ v. v.pattern.name) l) e.pattern.name) (sym is) ∙ ap (λ l. is_of l e.pattern.name) (map-append (λ (v : Emission). v.pattern.name) es (e ∷ vs))
        ∙ among (map (λ v. v.pattern.name) es) (map (λ v. v.pattern.name) vs) e.pattern.name in
        or_from (uses c e.pattern.name) (list_any (λ d. uses d.1 e.pattern.name) done) (not_true (uses c e.pattern.name) (own e.pattern.name given)) (none_uses done c e.pattern.name above given)

    from_put : (es : List Event) (e : Event) → with_texts (with_texts [] (from es)) (variables_of e.pattern) ≡ with_texts [] (from (es ++ e ∷ []))
    from_put es e = sym (with_texts_append [] (from es) (variables_of e.pattern))
        ∙ ap (with_texts []) (sym (flat_map-append (λ (v : Event). variables_of v.pattern) es (e ∷ []) ∙ ap (λ l. from es ++ l) (append-nil (variables_of e.pattern))))

    room : (es : List Event) (e : Event) (vs : List Event) → es ++ e ∷ vs ≡ c.events → is_above 7 e.level ≡ false
        → is_full (record (with_events es) { variables = with_texts (with_texts [] (from es)) (variables_of e.pattern) }) e.level ≡ false
    room es e vs is level =
        let few = shorter es e vs c.events is in
        let k = h.few.events in
        let a : nat_le 16 (length es) ≡ false = lt-leb 16 (length es) (omega (arith, few, k)) in
        let b : nat_le 24 (length es + 0) ≡ false = lt-leb 24 (length es + 0) (omega (arith, few, k)) in
        let put : with_texts (with_texts (with_texts [] (from es)) (variables_of e.pattern)) (from vs) ≡ c.variables =
        sym (with_texts_append (with_texts [] (from es)) (variables_of e.pattern) (from vs)) ∙ sym (with_texts_append [] (from es) (from (e ∷ vs)))
        ∙ ap (with_texts []) (sym (flat_map-append (λ (v : Event). variables_of v.pattern) es (e ∷ vs))) ∙ ap (λ l. with_texts [] (from l)) is ∙ sym h.variables in
        let grown = texts_grow (with_texts (with_texts [] (from es)) (variables_of e.pattern)) (from vs) in
        let same = ap length put in
        let some = h.few.variables in
        let d : nat_lt 16 (length (with_texts (with_texts [] (from es)) (variables_of e.pattern))) ≡ false = le-ltb 16 _ (omega (arith, grown, same, some)) in
        or_from (nat_le 16 (length es) || nat_le 24 (length es + 0) || is_above 7 e.level) _ (or_from (nat_le 16 (length es) || nat_le 24 (length es + 0)) (is_above 7 e.level) (or_from (nat_le 16 (length es)) (nat_le 24 (length es + 0)) a b) level) d

    first_points : (es : List Event) (e : Event) (vs : List Event) (ts : List (List ℕ)) → es ++ e ∷ vs ≡ c.events → Distinct (event_points c ++ ts) → is_of (map (λ v. v.point) es) e.point ≡ false
    first_points es e vs ts is d =
        let parts : event_points c ++ ts ≡ map (λ v. v.point) es ++ e.point ∷ (map (λ v. v.point) vs ++ ts) =
        ap (λ l. map (λ v. v.point) l ++ ts) (sym is) ∙ ap (λ l. l ++ ts) (map-append (λ (v : Event). v.point) es (e ∷ vs)) ∙ append_assoc (map (λ v. v.point) es) (e.point ∷ map (λ v. v.point) vs) ts in
        behind_new (map (λ v. v.point) es) (map (λ v. v.point) vs ++ ts) e.point (subst Distinct parts d)

    events_lead : Leads (begun (heading_of c)) (map Happens c.events) (with_free [])
    events_lead =
        let r = group Happens (λ e. IsFine texts names c (Happens e)) with_events c.events
        (λ es e. λ i. record (with_events es) { events = es ++ e ∷ []; variables = from_put es e i })
        (λ es e vs is k. faultless_of (with_events es) (Happens e) refl (record { fit = k.fit; suited = k.suited; variable = refl; point = refl; bound = refl; window = refl; large = k.large })
        (or_from (is_of (map (λ v. v.point) es) e.point) false (first_points es e vs c.free is h.points) refl) (room es e vs is k.large) refl)
        (λ e k. k.fit) (λ e. refl) c.events [] refl h.all.events in
        record { steps = r.steps; end = r.end ∙ ap (λ l. record (with_events c.events) { variables = l }) (sym h.variables) }

    free_lead : Leads (with_free []) (map Point c.free) (with_bounds [])
    free_lead = group Point (λ t. IsFine texts names c (Point t)) with_free c.free
        (λ ts t. refl)
        (λ ts t us is k.
        let few = shorter ts t us c.free is in
        let p = h.few.points in
        faultless_of (with_free ts) (Point t) refl (record { fit = k.fit; suited = k.suited; variable = refl; point = refl; bound = refl; window = refl; large = k.large })
        (sym (list_any-append (bytes_eq t) (event_points c) ts) ∙ behind_new (event_points c ++ ts) us t (subst Distinct (ap (λ l. event_points c ++ l) (sym is) ∙ sym (append_assoc (event_points c) ts (t ∷ us))) h.points))
        (lt-leb 24 (length c.events + length ts) (omega (arith, few, p))) refl)
        (λ t k. k.fit) (λ t. refl) c.free [] refl h.all.free

    bounds_lead : Leads (with_bounds []) (map Between c.bounds) (with_sets [])
    bounds_lead = group Between (λ d. IsFine texts names c (Between d)) with_bounds c.bounds
        (λ ds d. refl)
        (λ ds d es is k.
        let few = shorter ds d es c.bounds is in
        let p = h.few.bounds in
        faultless_of (with_bounds ds) (Between d) refl (fine_in texts names c (with_bounds ds) (Between d) (record { points = λ t q. q; free = λ t q. q; variables = λ t q. q }) k) refl (lt-leb 256 (length ds) (omega (arith, few, p))) refl)
        (λ d k. k.fit) (λ d. refl) c.bounds [] refl h.all.bounds

    sets_lead : Leads (with_sets []) (map (λ s. Among s.0 s.1) c.sets) (with_differs [])
    sets_lead = group (λ s. Among s.0 s.1) (λ s. IsFine texts names c (Among s.0 s.1)) with_sets c.sets
        (λ ss s. refl)
        (λ ss s us is k. faultless_of (with_sets ss) (Among s.0 s.1) refl (fine_in texts names c (with_sets ss) (Among s.0 s.1) (record { points = λ t q. q; free = λ t q. q; variables = λ t q. q }) k)
        (behind_new (map (λ s. s.0) ss) (map (λ s. s.0) us) s.0 (subst Distinct (ap (map (λ s. s.0)) (sym is) ∙ map-append (λ (s : List ℕ × List (List ℕ)). s.0) ss (s ∷ us)) h.sets)) k.large refl)
        (λ s k. k.fit) (λ s. refl) c.sets [] refl h.all.sets

    differs_lead : Leads (with_differs []) (map (λ d. Differ d.0 d.1) c.differs) (with_windows [])
    differs_lead = group (λ d. Differ d.0 d.1) (λ d. IsFine texts names c (Differ d.0 d.1)) with_differs c.differs
        (λ ds d. refl)
        (λ ds d es is k.
        let few = shorter ds d es c.differs is in
        let p = h.few.differs in
        faultless_of (with_differs ds) (Differ d.0 d.1) refl (fine_in texts names c (with_differs ds) (Differ d.0 d.1) (record { points = λ t q. q; free = λ t q. q; variables = λ t q. q }) k) refl (lt-leb 64 (length ds) (omega (arith, few, p))) refl)
        (λ d k. k.fit) (λ d. refl) c.differs [] refl h.all.differs

    windows_lead : Leads (with_windows []) (map Over c.windows) (with_emits [])
    windows_lead = group Over (λ w. IsFine texts names c (Over w)) with_windows c.windows
        (λ ws w. refl)
        (λ ws w vs is k.
        let few = shorter ws w vs c.windows is in
        let p = h.few.windows in
        faultless_of (with_windows ws) (Over w) refl (fine_in texts names c (with_windows ws) (Over w) (record { points = λ t q. q; free = λ t q. q; variables = λ t q. q }) k) refl (lt-leb 16 (length ws) (omega (arith, few, p))) (unlooped_window ws w.body))
        (λ w k. k.fit) (λ w. refl) c.windows [] refl h.all.windows

    emits_lead : Leads (with_emits []) (map Emits c.emits) c
    emits_lead = group Emits (λ e. IsFine texts names c (Emits e)) with_emits c.emits
        (λ es e. refl)
        (λ es e vs is k.
        let few = shorter es e vs c.emits is in
        let p = h.few.emits in
        faultless_of (with_emits es) (Emits e) refl (fine_in texts names c (with_emits es) (Emits e) (record { points = λ t q. q; free = λ t q. q; variables = λ t q. q }) k) refl (lt-leb 8 (length es) (omega (arith, few, p))) (unlooped_emit es e vs is))
        (λ e k. k.fit) (λ e. refl) c.emits [] refl h.all.emits

    pub good_leads : Leads (begun (heading_of c)) (body_of c) c
    good_leads =
        leads_then _ _ _ _ _ (leads_then _ _ _ _ _ (leads_then _ _ _ _ _ (leads_then _ _ _ _ _ (leads_then _ _ _ _ _ (leads_then _ _ _ _ _ events_lead free_lead) bounds_lead) sets_lead) differs_lead) windows_lead) emits_lead
