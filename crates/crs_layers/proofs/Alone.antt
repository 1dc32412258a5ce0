-- Where no chronicle gives entries there is one stratum, and a run is one of the log alone.
use Rattle.std.proofs.Common.{◌≡◌, ◌≤◌, ◌<◌, ◌||◌, ◌+◌, ◌-◌, ℕ, suc, Bool, true, false, cond, nat_lt, nat_le, List, [], ◌∷◌, ◌++◌, length, map, replicate, refl, sym, ap, subst, ◌∙◌, arith, append-nil, length-append, true≢false}
use Rattle.std.specs.List.{AllByRecursion}
use Rattle.std.proofs.lemmas.Bool.{ltb-true, le-ltb}
use Rattle.crs_model.specs.Models.{Chronicle}
use Rattle.crs_model.specs.Scopes.{ListsNew}
use Rattle.crs_model.specs.declared.recognition.Mark.TheVariants.{Clock as AtClock}
use Rattle.crs_log.specs.ItemOf.{What, Empty, Is, Faulty, what_of}
use Rattle.crs_log.specs.Items.{Item, Delay, Clock, Finish, Happens, Event}
use Rattle.crs_log.specs.Known.{Verdict, Other, Named, BadArity, BadValue, known_of, entry_of_event, texts_of, new_texts}
use Rattle.crs_log.specs.Reading.{Given, Plain, Long}
use Rattle.crs_log.specs.Recognitions.{View, view_of, scope_in}
use Rattle.crs_log.specs.Run as run
use Rattle.crs_log.specs.Run.{Outcome, Passed, Refused, Accepted, Marked, end_date, horizon_at, with_entry}
use Rattle.crs_log.specs.Trace as trace
use Rattle.crs_log.specs.Trace.{Answer}
use Rattle.crs_layers.specs.Strata.{Placed, Stratum, empty, strata_count, horizon_behind, with_logged, IsMarkFrom}
use Rattle.crs_layers.specs.StrataViews.{view_in, views_from, view_at}
use Rattle.crs_layers.specs.StrataAnswers.{AreNew, AreAnswers}
use Rattle.crs_layers.specs.Laws.{AreAlone, flat, RunsWithoutEmitsAreOfTheLog}
use Rattle.crs_layers.specs.Runs.{Setting, State, Effect, LogEntry, at_start, is_full, some_flooded, views_of, horizon_of, after_verdict, after_ordered, after_what, after_line, IsAfter, IsStep, IsRun}

-- the one stratum of a log's state
abbrev pub own : run.State → Stratum (List ℕ)
own s = record { accepted = s.accepted; marked = s.marked }

-- what holds of each state of such a run
pub record IsAlone (c : Setting) (s : State) : Type 0 where
  pub strata : s.strata ≡ own s.log ∷ []
  pub closed : s.log.ended ≡ true → s.log.horizon ≡ end_date
  pub few : length s.log.accepted ≤ c.log.entries

one_count : (ps : List (Placed (List ℕ))) → AreAlone ps → strata_count (map (λ p. p.stratum) ps) ≡ 1
one_count [] h = refl
one_count (p ∷ ps) h = let e = h.0.1 in let r = one_count ps h.1 in omega (arith, e, r)

pub starts_alone : (c : Setting) (texts : List (List ℕ)) → AreAlone c.placed → IsAlone c (at_start c texts)
starts_alone c texts h = record {
  strata = λ i. replicate (one_count c.placed h i) empty;
  closed = λ e. absurd (true≢false (sym e));
  few = omega arith;
}

-- ---- what becomes of a line

module _ (c : run.Setting) (s : run.State) where
  abbrev full : Bool
  full = is_full c.entries (own s ∷ [])

  no_room : (a b : Bool) → nat_le c.entries (length s.accepted) ≡ a → nat_lt (length s.accepted) c.entries ≡ b → (x y z : run.State × Outcome)
      → cond (a || false) z (cond b x z) ≡ cond b x z
  no_room true true e f x y z = absurd (let l = ltb-true (length s.accepted) c.entries f in grind (arith, e, l))
  no_room true false e f x y z = refl
  no_room false b e f x y z = refl

  same_named : (e : Event) → cond full (s, Refused (run.Full c.entries)) (run.after_named c s e) ≡ run.after_named c s e
  same_named e =
      no_room (nat_le c.entries (length s.accepted)) (nat_lt (length s.accepted) c.entries) refl refl
      (cond (nat_le (length s.texts + length (new_texts s.texts (texts_of e))) c.symbols)
      (with_entry s (entry_of_event (length s.accepted) e) e, Accepted (entry_of_event (length s.accepted) e))
      (s, Refused (run.Values c.symbols))) (s, Passed) (s, Refused (run.Full c.entries))

  same_verdict : (e : Event) (v : Verdict) → after_verdict c full s e v ≡ run.after_verdict c s e v
  same_verdict e Other = refl
  same_verdict e BadArity = refl
  same_verdict e BadValue = refl
  same_verdict e (Named place) = same_named e

  same_ordered : (item : Item) → after_ordered c full s item ≡ run.after_ordered c s item
  same_ordered (Delay d) = refl
  same_ordered (Clock t) = refl
  same_ordered Finish = refl
  same_ordered (Happens e) = ap (λ (a : run.State × Outcome). cond (nat_lt e.date s.horizon) (s, Refused (run.Late e.date s.horizon)) a) (same_verdict e (known_of c.names e))

  same_what : (w : What) → after_what c full s w ≡ run.after_what c s w
  same_what Empty = refl
  same_what (Is item) = ap (λ (a : run.State × Outcome). cond s.ended (s, Refused run.Order) a) (same_ordered item)
  same_what Faulty = refl

  pub same_line : (g : Given) → after_line c full s g ≡ run.after_line c s g
  same_line (Long n) = refl
  same_line (Plain n bytes) = same_what (what_of bytes)

  -- ---- what it leaves

  abbrev Leaves : run.State × Outcome → Type 0
  Leaves (t, Passed) = (t.accepted ≡ s.accepted) × (t.marked ≡ s.marked) × (t.ended ≡ s.ended) × (t.horizon ≡ s.horizon)
  Leaves (t, Refused f) = (t.accepted ≡ s.accepted) × (t.marked ≡ s.marked) × (t.ended ≡ s.ended) × (t.horizon ≡ s.horizon)
  Leaves (t, Accepted e) =
      (t.accepted ≡ s.accepted ++ e ∷ []) × (t.marked ≡ s.marked) × (t.ended ≡ s.ended) × (t.horizon ≡ s.horizon) × (e.arrival ≡ length s.accepted) × (length s.accepted < c.entries)
  Leaves (t, Marked m) = (t.accepted ≡ s.accepted) × (t.marked ≡ length s.accepted) × (t.ended ≡ true → t.horizon ≡ end_date)

  left_named : (e : Event) → Leaves (run.after_named c s e)
  left_named e = by (nat_lt (length s.accepted) c.entries) refl (nat_le (length s.texts + length (new_texts s.texts (texts_of e))) c.symbols)
    where
      by : (a : Bool) → nat_lt (length s.accepted) c.entries ≡ a → (b : Bool)
          → Leaves (cond {A = run.State × Outcome} a (cond b (with_entry s (entry_of_event (length s.accepted) e) e, Accepted (entry_of_event (length s.accepted) e)) (s, Refused (run.Values c.symbols))) (s, Refused (run.Full c.entries)))
      by true q true = (refl, refl, refl, refl, refl, ltb-true (length s.accepted) c.entries q)
      by true q false = (refl, refl, refl, refl)
      by false q b = (refl, refl, refl, refl)

  left_verdict : (e : Event) (v : Verdict) → Leaves (run.after_verdict c s e v)
  left_verdict e Other = (refl, refl, refl, refl)
  left_verdict e BadArity = (refl, refl, refl, refl)
  left_verdict e BadValue = (refl, refl, refl, refl)
  left_verdict e (Named place) = left_named e

  left_ordered : s.ended ≡ false → (item : Item) → Leaves (run.after_ordered c s item)
  left_ordered going (Delay d) = (refl, refl, refl, refl)
  left_ordered going (Clock t) = by (nat_lt t s.last)
    where
      by : (b : Bool) → Leaves (cond {A = run.State × Outcome} b (s, Refused (run.Back t s.last))
          (record s { last = t; horizon = horizon_at s.delay s.horizon t; marked = length s.accepted }, Marked (AtClock t)))
      by true = (refl, refl, refl, refl)
      by false = (refl, refl, λ e. absurd (true≢false (sym e ∙ going)))
  left_ordered going Finish = (refl, refl, λ e. refl)
  left_ordered going (Happens e) = by (nat_lt e.date s.horizon)
    where
      by : (b : Bool) → Leaves (cond {A = run.State × Outcome} b (s, Refused (run.Late e.date s.horizon)) (run.after_verdict c s e (known_of c.names e)))
      by true = (refl, refl, refl, refl)
      by false = left_verdict e (known_of c.names e)

  left_what : (w : What) → Leaves (run.after_what c s w)
  left_what Empty = (refl, refl, refl, refl)
  left_what (Is item) = by s.ended refl
    where
      by : (b : Bool) → s.ended ≡ b → Leaves (cond {A = run.State × Outcome} b (s, Refused run.Order) (run.after_ordered c s item))
      by true e = (refl, refl, refl, refl)
      by false e = left_ordered e item
  left_what Faulty = (refl, refl, refl, refl)

  pub left_line : (g : Given) → Leaves (run.after_line c s g)
  left_line (Long n) = (refl, refl, refl, refl)
  left_line (Plain n bytes) = left_what (what_of bytes)

-- ---- one line

module _ (c : Setting) (alone : AreAlone c.placed) where
  abbrev chronicles : List (Chronicle (List ℕ))
  chronicles = map (λ p. p.chronicle) c.placed

  -- what recognition reads of the one stratum
  pub read_alone : (s : State) → IsAlone c s → view_at (views_of c s) 0 ≡ view_of s.log
  read_alone s a =
      let horizon : horizon_of c s.log 0 ≡ s.log.horizon = by s.log.ended a.closed in
      ap (λ (ss : List (Stratum (List ℕ))). view_at (views_from (horizon_of c s.log) 0 ss) 0) a.strata
      ∙ (λ i. view_in (own s.log) (horizon i))
    where
      by : (b : Bool) → (b ≡ true → s.log.horizon ≡ end_date) → horizon_behind b s.log.horizon 0 ≡ s.log.horizon
      by true h = sym (h refl)
      by false h = omega arith

  new_alone : (k : ℕ) (ps : List (Placed (List ℕ))) (was now : List View) (answers : List Answer) → AreAlone ps → AreNew k ps was now answers
      → trace.AreNew k (map (λ p. p.chronicle) ps) (view_at was 0) (view_at now 0) answers
  new_alone k [] was now answers h n = n
  new_alone k (p ∷ ps) was now answers h n = (
    n.0,
    n.1,
    subst (λ (j : ℕ). ListsNew p.chronicle (scope_in p.chronicle (view_at was j)) (scope_in p.chronicle (view_at now j)) n.0) h.0.1 n.2,
    new_alone (suc k) ps was now n.1 h.1 n.3,
    n.4,
  )

  answers_alone : (was now : List View) (o : Outcome) (answers : List Answer) → AreAnswers c.placed was now o answers → trace.AreAnswers chronicles (view_at was 0) (view_at now 0) o answers
  answers_alone was now Passed answers h = h
  answers_alone was now (Refused fault) answers h = h
  answers_alone was now (Accepted entry) answers h = h
  answers_alone was now (Marked mark) answers h = new_alone 0 c.placed was now answers alone h

  -- what a line leaves, and that there is room for all that is given
  abbrev IsLeft : State → run.State → Outcome → List (Stratum (List ℕ)) → List (List LogEntry) → Type 0
  IsLeft s t o strata given =
      (strata ≡ own t ∷ []) × (t.ended ≡ true → t.horizon ≡ end_date) × (length t.accepted ≤ c.log.entries) × (some_flooded c.log.entries s.strata given ≡ false)

  none_flooded : (limit : ℕ) (ss : List (Stratum (List ℕ))) → some_flooded limit ss [] ≡ false
  none_flooded limit [] = refl
  none_flooded limit (s ∷ ss) = refl

  left_by : (s : State) (t : run.State) (o : Outcome) (strata : List (Stratum (List ℕ))) (given : List (List LogEntry)) → IsAlone c s → Leaves c.log s.log (t, o) → IsAfter c s t o strata given → IsLeft s t o strata given
  left_by s t Passed strata given a l h = (
    h.0 ∙ a.strata ∙ (λ i. record { accepted = sym l.0 i; marked = sym l.1 i } ∷ []),
    λ e. l.3 ∙ a.closed (sym l.2 ∙ e),
    (let few = a.few in let n = ap length l.0 in omega (arith, few, n)),
    ap (some_flooded c.log.entries s.strata) h.1 ∙ none_flooded c.log.entries s.strata,
  )
  left_by s t (Refused fault) strata given a l h = (
    h.0 ∙ a.strata ∙ (λ i. record { accepted = sym l.0 i; marked = sym l.1 i } ∷ []),
    λ e. l.3 ∙ a.closed (sym l.2 ∙ e),
    (let few = a.few in let n = ap length l.0 in omega (arith, few, n)),
    ap (some_flooded c.log.entries s.strata) h.1 ∙ none_flooded c.log.entries s.strata,
  )
  left_by s t (Accepted e) strata given a l h = (
    h.0 ∙ ap (map (with_logged e)) a.strata ∙ (λ i. record { accepted = s.log.accepted ++ record e { arrival = sym l.4 i } ∷ []; marked = s.log.marked } ∷ [])
        ∙ (λ i. record { accepted = sym l.0 i; marked = sym l.1 i } ∷ []),
    λ q. l.3 ∙ a.closed (sym l.2 ∙ q),
    (let room = l.5 in let n = ap length l.0 in omega (arith, room, n, length-append s.log.accepted (e ∷ []))),
    ap (some_flooded c.log.entries s.strata) h.1 ∙ none_flooded c.log.entries s.strata,
  )
  left_by s t (Marked mark) strata given a l h =
      let one = subst (λ (ss : List (Stratum (List ℕ))). IsMarkFrom (λ x. x) c.placed c.log.entries (horizon_of c s.log) (horizon_of c t) 0 [] ss strata given) a.strata h in
      let few = a.few in
      let accepted : s.log.accepted ++ [] ≡ t.accepted = append-nil s.log.accepted ∙ sym l.0 in
      let marked : length (s.log.accepted ++ []) ≡ t.marked = ap length (append-nil s.log.accepted) ∙ sym l.1 in
      let roomy : nat_lt c.log.entries (length s.log.accepted + 0) ≡ false = le-ltb c.log.entries (length s.log.accepted + 0) (omega (arith, few)) in (
        one.3 ∙ (λ i. record { accepted = accepted i; marked = marked i } ∷ one.6.0 i),
        l.2,
        (let n = ap length l.0 in omega (arith, few, n)),
        (λ i. some_flooded c.log.entries (a.strata i) (one.4 i)) ∙ (λ i. roomy i || false),
      )

  -- a line that is met alone leaves a state that is, and brings what the log alone has it bring
  pub step_alone : (s : State) (g : Given) (e : Effect) (t : State) → IsAlone c s → IsStep c s g e t → IsAlone c t × (e.flood ≡ false) × trace.IsEffect c.log chronicles s.log g (flat e) t.log
  step_alone s g e t a h =
      let becomes : run.after_line c.log s.log g ≡ (t.log, e.outcome) =
      sym (same_line c.log s.log g) ∙ (λ i. after_line c.log (is_full c.log.entries (sym a.strata i)) s.log g) ∙ h.log in
      let leaves = subst (Leaves c.log s.log) becomes (left_line c.log s.log g) in
      let left = left_by s t.log e.outcome t.strata e.given a leaves h.strata in
      let then : IsAlone c t = record { strata = left.0; closed = left.1; few = left.2 } in (
        then,
        h.flood ∙ left.3,
        record {
          number = h.number;
          becomes = becomes;
          was = ap (λ (v : List View). view_at v 0) h.was ∙ read_alone s a;
          now = ap (λ (v : List View). view_at v 0) h.now ∙ read_alone t then;
          answers = answers_alone e.was e.now e.outcome e.answers h.answers;
        },
      )

  -- so all lines
  pub run_alone : (s : State) (gs : List Given) (es : List Effect) (t : State) → IsAlone c s → IsRun c s gs es t
      → IsAlone c t × AllByRecursion (λ e. e.flood ≡ false) es × trace.IsTrace c.log chronicles s.log gs (map flat es) t.log
  run_alone s [] [] t a h = (subst (IsAlone c) h a, tt, ap (λ (x : State). x.log) h)
  run_alone s [] (e ∷ es) t a h = absurd h
  run_alone s (g ∷ gs) [] t a h = absurd h
  run_alone s (g ∷ gs) (e ∷ es) t a h =
      let one = step_alone s g e h.0 a h.1 in
      let rest = run_alone h.0 gs es t one.0 h.2 in
      (rest.0, (one.1, rest.1), (h.0.log, one.2, rest.2))

pub runs_without_emits : RunsWithoutEmitsAreOfTheLog
runs_without_emits c texts lines effects t alone h = let r = run_alone c alone (at_start c texts) lines effects t (starts_alone c texts alone) h in (r.1, r.2)
