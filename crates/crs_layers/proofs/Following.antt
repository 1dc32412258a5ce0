-- What layers stand for once a line takes them on.
use Rattle.std.proofs.Common.{◌≡◌, ℕ, ◌+◌, ◌<◌, ◌^◌, Bool, true, false, nat_lt, nat_le, cond, List, [], ◌∷◌, ◌++◌, length, map, refl, sym, ap, subst, ◌∙◌}
use Rattle.std.specs.List.{AllByRecursion, AllZip}
use Rattle.std.proofs.lemmas.List.{map-append, length-map}
use Rattle.crs_base.specs.declared.symbols.Sym.{Sym}
use Rattle.crs_base.specs.Entry.{Entry}
use Rattle.crs_base.specs.Symbols.{with_texts}
use Rattle.crs_base.proofs.Alls.{all_append}
use Rattle.crs_model.specs.declared.plan.Plan.{Plan}
use Rattle.crs_model.specs.Plans.{chronicle}
use Rattle.crs_model.specs.Renaming.{text_in, renamed_entry, IsChronicleOf, IsEntryOf}
use Rattle.crs_model.proofs.Agreed.{same_chronicle, same_entries, chronicle_more, entries_more}
use Rattle.crs_log.proofs.Parts.{kept_all}
use Rattle.crs_log.specs.Items.{Happens, Event}
use Rattle.crs_log.specs.Known.{Verdict, Other, Named, BadArity, BadValue, known_of, entry_of_event, texts_of, new_texts}
use Rattle.crs_log.specs.Run as run
use Rattle.crs_log.specs.Run.{Outcome, Passed, Refused, Accepted, with_entry}
use Rattle.crs_engine.specs.Engines.{plans_of}
use Rattle.crs_layers.specs.Strata.{Stratum, with_logged}
use Rattle.crs_layers.specs.Runs.{Setting, State, Effect, is_full, after_verdict, after_ordered, horizon_of, IsAfter, IsItemEffect}
use Rattle.crs_layers.specs.declared.layer.Layer.{Layer}
use Rattle.crs_layers.specs.LayerPlans.{placed_of}
use Rattle.crs_layers.specs.Accepting.{IsSameLayer, IsDelayed, IsReady, HasLogged}
use Rattle.crs_layers.specs.LayerStates.{LayersState}
use Rattle.crs_layers.specs.Standing.{HasText, placed_in, stratum_in, IsRunOf, StandFor}
use Rattle.crs_layers.specs.Takes.{TakeDelay, TakeEntry}
use Rattle.crs_layers.proofs.Logging.{logged_all, logged_of, delayed_all, delayed_of}

-- an accepted event adds its entry and its texts
record IsMore (s t : run.State) (y : Entry (List ℕ)) : Type 0 where
  event : Event
  is : t ≡ with_entry s y event

abbrev IsAdded : run.State → run.State × Outcome → Type 0
IsAdded s r = (y : Entry (List ℕ)) → r.1 ≡ Accepted y → IsMore s r.0 y

module _ (c : run.Setting) (full : Bool) (s : run.State) where
  passes : (after : run.State) → IsAdded s (after, Passed)
  passes after y h = absurd cc

  refuses : (after : run.State) (f : run.Fault) → IsAdded s (after, Refused f)
  refuses after f y h = absurd cc

  either : (b : Bool) (r q : run.State × Outcome) → IsAdded s r → IsAdded s q → IsAdded s (cond b r q)
  either true r q h k = h
  either false r q h k = k

  adds : (e : Event) → IsAdded s (with_entry s (entry_of_event (length s.accepted) e) e, Accepted (entry_of_event (length s.accepted) e))
  adds e y h =
      let same : entry_of_event (length s.accepted) e ≡ y = cc in
      record { event = e; is = ap (λ (z : Entry (List ℕ)). with_entry s z e) same }

  named_adds : (e : Event) → IsAdded s (run.after_named c s e)
  named_adds e = by (nat_lt (length s.accepted) c.entries) (nat_le (length s.texts + length (new_texts s.texts (texts_of e))) c.symbols)
    where
      by : (a b : Bool) → IsAdded s (cond {A = run.State × Outcome} a (cond b (with_entry s (entry_of_event (length s.accepted) e) e, Accepted (entry_of_event (length s.accepted) e)) (s, Refused (run.Values c.symbols))) (s, Refused (run.Full c.entries)))
      by true true = adds e
      by true false = refuses s (run.Values c.symbols)
      by false b = refuses s (run.Full c.entries)

  verdict_adds : (e : Event) (v : Verdict) → IsAdded s (after_verdict c full s e v)
  verdict_adds e Other = passes s
  verdict_adds e BadArity = refuses s run.Arity
  verdict_adds e BadValue = refuses s run.Value
  verdict_adds e (Named place) = either full (s, Refused (run.Full c.entries)) (run.after_named c s e) (refuses s (run.Full c.entries)) (named_adds e)

  event_adds : (e : Event) → IsAdded s (after_ordered c full s (Happens e))
  event_adds e =
      either (nat_lt e.date s.horizon) (s, Refused (run.Late e.date s.horizon)) (after_verdict c full s e (known_of c.names e))
      (refuses s (run.Late e.date s.horizon)) (verdict_adds e (known_of c.names e))

entry_step : (c : Setting) (s : State) (n : ℕ) (event : Event) (e : Effect) (t : State) → IsItemEffect c s n (Happens event) e t → (y : Entry (List ℕ)) → e.outcome ≡ Accepted y → IsMore s.log t.log y
entry_step c s n event e t k y q =
    subst (λ (u : run.State). IsMore s.log u y) (ap (λ (r : run.State × Outcome). r.0) k.log)
    (event_adds c.log (is_full c.log.entries s.strata) s.log event y (ap (λ (r : run.State × Outcome). r.1) k.log ∙ q))

-- ---- more texts

module _ (T ts : List (List ℕ)) where
  abbrev grown : List (List ℕ)
  grown = with_texts T ts

  more_text : (s : Sym) → HasText T s → HasText grown s
  more_text s h = (kept_all ts T s.0 h).0

  same_text : (s : Sym) → HasText T s → text_in T s ≡ text_in grown s
  same_text s h = sym (kept_all ts T s.0 h).1

  placed_same : (ps : List Plan) (ks : List ℕ) → AllByRecursion (λ p. IsChronicleOf (HasText T) (chronicle p)) ps → map (placed_in T) (placed_of ps ks) ≡ map (placed_in grown) (placed_of ps ks)
  placed_same [] ks h = refl
  placed_same (p ∷ ps) [] h = refl
  placed_same (p ∷ ps) (k ∷ ks) h =
      let one = same_chronicle (text_in T) (text_in grown) (HasText T) same_text (chronicle p) h.0 in
      λ i. record { chronicle = one i; stratum = k; lag = p.lag } ∷ placed_same ps ks h.1 i

  plans_more : (ps : List Plan) → AllByRecursion (λ p. IsChronicleOf (HasText T) (chronicle p)) ps → AllByRecursion (λ p. IsChronicleOf (HasText grown) (chronicle p)) ps
  plans_more [] h = tt
  plans_more (p ∷ ps) h = (chronicle_more (HasText T) (HasText grown) more_text (chronicle p) h.0, plans_more ps h.1)

  pub run_more : (ps : List Plan) (ks : List ℕ) (c : Setting) → IsRunOf ps ks T c → IsRunOf ps ks grown c
  run_more ps ks c h = record { strata = h.strata; placed = h.placed ∙ placed_same ps ks h.known; known = plans_more ps h.known }

  module _ (x : Entry Sym) (known : IsEntryOf (HasText grown) x) where
    pub strata_known : (us : List (Stratum Sym)) → AllByRecursion (λ u. AllByRecursion (IsEntryOf (HasText T)) u.accepted) us
        → AllByRecursion (λ u. AllByRecursion (IsEntryOf (HasText grown)) u.accepted) (map (with_logged x) us)
    strata_known [] h = tt
    strata_known (u ∷ us) h = (
      all_append (IsEntryOf (HasText grown)) u.accepted (record x { arrival = length u.accepted } ∷ []) (entries_more (HasText T) (HasText grown) more_text u.accepted h.0)
          (record { name = known.name; args = known.args; change = known.change }, tt),
      strata_known us h.1,
    )

    pub strata_seen : (us : List (Stratum Sym)) → AllByRecursion (λ u. AllByRecursion (IsEntryOf (HasText T)) u.accepted) us
        → map (stratum_in grown) (map (with_logged x) us) ≡ map (with_logged (renamed_entry (text_in grown) x)) (map (stratum_in T) us)
    strata_seen [] h = refl
    strata_seen (u ∷ us) h =
        let f : Entry Sym → Entry (List ℕ) = renamed_entry (text_in grown) in
        let n : length u.accepted ≡ length (map (renamed_entry (text_in T)) u.accepted) = sym (length-map u.accepted (renamed_entry (text_in T))) in
        let old : map f u.accepted ≡ map (renamed_entry (text_in T)) u.accepted = sym (same_entries (text_in T) (text_in grown) (HasText T) same_text u.accepted h.0) in
        let one : map f (u.accepted ++ record x { arrival = length u.accepted } ∷ []) ≡ map (renamed_entry (text_in T)) u.accepted ++ record (f x) { arrival = length (map (renamed_entry (text_in T)) u.accepted) } ∷ [] =
        map-append f u.accepted (record x { arrival = length u.accepted } ∷ []) ∙ (λ i. old i ++ record (f x) { arrival = n i } ∷ []) in
        λ i. record { accepted = one i; marked = u.marked } ∷ strata_seen us h.1 i

-- ---- a logged entry

pub entry_taken : (old : LayersState) (x : Entry Sym) (ms : List Layer) → x.date < 2 ^ 40 → AllByRecursion (IsReady x.date) old.layers → AllZip IsSameLayer old.layers ms → AllZip (HasLogged x) old.layers ms
    → TakeEntry old (record old { layers = ms }) x
entry_taken old x ms date ready q z c s n event e t b k a =
    let T : List (List ℕ) = s.log.texts in
    let more : IsMore s.log t.log (renamed_entry (text_in t.log.texts) x) = entry_step c s n event e t k (renamed_entry (text_in t.log.texts) x) a.accepted in
    let ts : List (List ℕ) = texts_of more.event in
    let same : t.log.texts ≡ with_texts T ts = ap (λ (u : run.State). u.texts) more.is in
    let y : Entry (List ℕ) = renamed_entry (text_in (with_texts T ts)) x in
    let known : IsEntryOf (HasText (with_texts T ts)) x = subst (λ (us : List (List ℕ)). IsEntryOf (HasText us) x) same a.known in
    let log : t.log ≡ with_entry s.log y more.event = more.is ∙ (λ i. with_entry s.log (renamed_entry (text_in (same i)) x) more.event) in
    let after : (t.strata ≡ map (with_logged (renamed_entry (text_in t.log.texts) x)) s.strata) × (e.given ≡ []) = subst (λ (o : Outcome). IsAfter c s t.log o t.strata e.given) a.accepted k.strata in
    let strata : t.strata ≡ map (with_logged y) s.strata = after.0 ∙ (λ i. map (with_logged (renamed_entry (text_in (same i)) x)) s.strata) in
    let now : State = record { log = with_entry s.log y more.event; strata = map (with_logged y) s.strata } in
    let there : StandFor c now (record old { layers = ms }) = record {
      numbers = b.numbers;
      run = run_more T ts (plans_of old.plans) b.numbers c b.run;
      of = logged_of (plans_of old.plans) b.numbers old.focus old.limit 0 x old.layers ms b.of q z;
      limit = b.limit;
      last = b.last;
      ended = b.ended;
      strata = map (with_logged x) b.strata;
      known = strata_known T ts x known b.strata b.known;
      seen = strata_seen T ts x known b.strata b.known ∙ ap (map (with_logged y)) b.seen;
      at = logged_all (horizon_of c s.log) s.log.last s.log.delay 0 x date b.strata old.layers ms b.at ready q z;
      running = b.running;
    } in
    subst (λ (u : State). StandFor c u (record old { layers = ms })) (sym (λ i. record { log = log i; strata = strata i })) there

-- ---- another delay

pub delay_taken : (old : LayersState) (d : ℕ) (ms : List Layer) → AllZip (IsDelayed d) old.layers ms → TakeDelay old (record old { layers = ms }) d
delay_taken old d ms z c s n e t b k =
    let leaves : (record s.log { delay = d }, Passed) ≡ (t.log, e.outcome) = k.log in
    let log : t.log ≡ record s.log { delay = d } = sym (ap (λ (r : run.State × Outcome). r.0) leaves) in
    let passed : e.outcome ≡ Passed = sym (ap (λ (r : run.State × Outcome). r.1) leaves) in
    let after : (t.strata ≡ s.strata) × (e.given ≡ []) = subst (λ (u : Outcome). IsAfter c s t.log u t.strata e.given) passed k.strata in
    let now : State = record { log = record s.log { delay = d }; strata = s.strata } in
    let there : StandFor c now (record old { layers = ms }) = record {
      numbers = b.numbers;
      run = b.run;
      of = delayed_of (plans_of old.plans) b.numbers old.focus old.limit d 0 old.layers ms b.of z;
      limit = b.limit;
      last = b.last;
      ended = b.ended;
      strata = b.strata;
      known = b.known;
      seen = b.seen;
      at = delayed_all (horizon_of c s.log) s.log.last s.log.delay d 0 b.strata old.layers ms b.at z;
      running = b.running;
    } in
    subst (λ (u : State). StandFor c u (record old { layers = ms })) (sym (λ i. record { log = log i; strata = after.0 i })) there
