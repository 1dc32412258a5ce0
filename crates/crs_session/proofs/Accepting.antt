-- What a refused line, a delay and an accepted event bring.
use Rattle.std.proofs.Common.{◌≡◌, ◌<◌, ◌≤◌, ◌+◌, ◌==◌, ◌||◌, ◌^◌, ℕ, suc, Bool, true, false, cond, List, [], ◌∷◌, ◌++◌, map, length, filter, nat_lt, nat_le, refl, sym, ap, subst, ◌∙◌, arith, append-nil, lt-ltb, length-append}
use Rattle.std.proofs.Common.{Result, Ok, Err}
use Rattle.std.specs.Prelude.{OnOk}
use Rattle.std.specs.List.{list_any}
use Rattle.std.proofs.lemmas.Bool.{le-ltb}
use Rattle.std.proofs.lemmas.List.{length-map}
use Rattle.crs_base.specs.declared.entry.Entry.{Entry as CodeEntry}
use Rattle.crs_base.specs.declared.symbols.Sym.{Sym}
use Rattle.crs_base.specs.Seen.{entry_of}
use Rattle.crs_base.specs.Symbols.{Table, with_texts, AreDistinct}
use Rattle.crs_base.proofs.DistinctTexts.{with_apart}
use Rattle.crs_model.specs.declared.plan.Plan.{Plan}
use Rattle.crs_model.specs.declared.plan.Plans.{Plans}
use Rattle.crs_model.specs.Order.{in_key_order}
use Rattle.crs_model.specs.Renaming.{text_in, renamed_entry, IsEntryOf}
use Rattle.crs_engine.specs.Engines.{plans_of}
use Rattle.crs_engine.specs.EngineRefusals.{answer_by}
use Rattle.crs_engine.specs.declared.refused.Refused.TheVariants.{Late}
use Rattle.crs_log.specs.Items.{Delay, Event, Happens}
use Rattle.crs_log.specs.Known.{new_texts, texts_of, entry_of_event, known_of, Verdict, Named}
use Rattle.crs_log.specs.Run as run
use Rattle.crs_log.specs.Run.{Outcome, Passed, Refused, Accepted, after_named, with_entry}
use Rattle.crs_log.specs.SeenNames.{entry_seen, name_seen, IsEntryIn}
use Rattle.crs_report.specs.OutputLines.{refusal_line}
use Rattle.crs_layers.specs.Halts.{test_refusal}
use Rattle.crs_layers.specs.LayerStates.{LayersState, first_of, horizon_in, accepted_in, is_full_in}
use Rattle.crs_layers.specs.LayerPlans.{AreLayersOf}
use Rattle.crs_layers.specs.Runs.{State, Effect, LogEntry, IsItemEffect, some_flooded, horizon_of, views_of, after_ordered, after_verdict}
use Rattle.crs_layers.specs.Standing.{HasText, AreLayersAt, stratum_in}
use Rattle.crs_layers.specs.Strata.{Stratum, behind, horizon_behind, with_logged}
use Rattle.crs_layers.specs.StrataViews.{view_in, views_from}
use Rattle.crs_layers.specs.Takes.{GoOnBy, TakeDelay, TakeEntry, IsAcceptedAs}
use Rattle.crs_layers.specs.declared.layer.Layer.{Layer}
use Rattle.crs_session.specs.declared.session.Session.{Session}
use Rattle.crs_session.specs.Session.{Represents, Brings, BringsAll, full_in}
use Rattle.crs_frames.specs.TableTexts.{HasModels}
use Rattle.crs_session.specs.Tallies.{AllLive, IsPeaked, with_refused}
use Rattle.crs_frames.specs.Frames.{Frame, log_setting, fault_of}
use Rattle.crs_session.specs.Texts.{setting_of}
use Rattle.crs_session.specs.Written.{Written, with_text}
use Rattle.crs_session.proofs.Counting.{counted_passed, counted_refused}
use Rattle.crs_frames.proofs.Grown.{models_grown, texts_grow}
use Rattle.crs_layers.proofs.Read.{full_read}
use Rattle.crs_session.proofs.ReadLayers.{strata_some, horizon_read}
use Rattle.crs_frames.proofs.Results.{both_ok}
use Rattle.crs_frames.proofs.Dates.{fine_by, late_by}

-- where nothing is given, nothing isn't accepted
pub none_flooded : (limit : ℕ) (ss : List (Stratum (List ℕ))) → some_flooded limit ss [] ≡ false
none_flooded limit [] = refl
none_flooded limit (s ∷ ss) = refl

-- a refused line is noted
noted : (f : Frame) (x : Session) (s : State) → Represents f x s → Represents f (record x { counts = with_refused x.counts }) s
noted f x s r = record {
  models = r.models;
  stand = r.stand;
  texts = r.texts;
  strata = r.strata;
  count = r.count;
  few = r.few;
  most_here = r.most_here;
  reached = r.reached;
  closed = r.closed;
  cite = r.cite;
  ended = r.ended;
  peaked = r.peaked;
}

module _ (f : Frame) (x : Session) (s : State) (r : Represents f x s) where
  -- what a line brings that changes nothing
  abbrev still : ℕ → Outcome → Effect
  still n o = record { number = n; outcome = o; given = []; flood = false; was = views_of (setting_of f) s; now = views_of (setting_of f) s; answers = [] }

  -- a refused line is written, and changes nothing
  pub refused_brings : (n : ℕ) (fault : run.Fault) (after : run.State × Outcome) (new : Session) (out more : Written)
      → after ≡ (s.log, Refused fault) → new ≡ record x { counts = with_refused x.counts } → more ≡ with_text out (refusal_line n (fault_of fault))
      → Brings f x.layers.focus x.counts new n s after out more
  refused_brings n fault after new out more is now written =
      subst (λ (y : Session). Brings f x.layers.focus x.counts y n s after out more) (sym now) (record {
        effect = still n (Refused fault);
        next = s;
        is = record { number = refl; log = is; strata = (refl, refl); flood = sym (none_flooded f.entries s.strata); was = refl; now = refl; answers = refl };
        state = noted f x s r;
        same_focus = refl;
        written = ap (λ (w : Written). w.text) written ∙ ap (λ (t : List ℕ). out.text ++ t) (sym (append-nil (refusal_line n (fault_of fault))));
        found = [];
        notices = refl;
        filled = tt;
        added = ap (λ (w : Written). w.found) written ∙ sym (append-nil out.found);
        live = r.peaked.0;
        all_live = r.peaked.1;
        counted = counted_refused x.counts r.peaked.0 r.peaked.2;
      })

  -- a line that is passed over changes nothing
  pub passed_brings : (n : ℕ) (after : run.State × Outcome) (out : Written) → after ≡ (s.log, Passed)
      → Brings f x.layers.focus x.counts x n s after out out
  passed_brings n after out is = record {
    effect = still n Passed;
    next = s;
    is = record { number = refl; log = is; strata = (refl, refl); flood = sym (none_flooded f.entries s.strata); was = refl; now = refl; answers = refl };
    state = r;
    same_focus = refl;
    written = sym (append-nil out.text);
    found = [];
    notices = refl;
    filled = tt;
    added = sym (append-nil out.found);
    live = r.peaked.0;
    all_live = r.peaked.1;
    counted = counted_passed x.counts r.peaked.0 r.peaked.2;
  }

  -- the delay is set
  pub delay_brings : (d n : ℕ) (new : LayersState) (out : Written) → GoOnBy 0 x.layers new → TakeDelay x.layers new d
      → Brings f x.layers.focus x.counts (record x { layers = new }) n s (after_ordered (log_setting f) (full_in f s) s.log (Delay d)) out out
  delay_brings d n new out goes takes =
      let t : State = record s { log = record s.log { delay = d } } in
      let e : Effect = still n Passed in
      let is : IsItemEffect (setting_of f) s n (Delay d) e t =
      record { number = refl; log = refl; strata = (refl, refl); flood = sym (none_flooded f.entries s.strata); was = refl; now = refl; answers = refl } in
      record {
        effect = e;
        next = t;
        is = is;
        state = record {
          models = subst (λ (p : Plans). HasModels f p x.symbols) (sym goes.same_plans) r.models;
          stand = takes (setting_of f) s n e t r.stand is;
          texts = r.texts;
          strata = r.strata;
          count = let a = r.count in let b = goes.accepted in omega (arith, a, b);
          few = r.few;
          most_here = r.most_here;
          reached = r.reached;
          closed = r.closed;
          cite = r.cite;
          ended = r.ended;
          peaked = subst (λ (b : Bool). IsPeaked b f.placed (views_of (setting_of f) s) x.counts.peak) (sym goes.same_focus) r.peaked;
        };
        same_focus = goes.same_focus;
        written = sym (append-nil out.text);
        found = [];
        notices = refl;
        filled = tt;
        added = sym (append-nil out.found);
        live = r.peaked.0;
        all_live = r.peaked.1;
        counted = counted_passed x.counts r.peaked.0 r.peaked.2;
      }

-- so where its text was written, and it was counted
pub refuse_brings : {A E : Type 0} (result : Result A E) (x new : Session) (n : ℕ) (fault : run.Fault)
    (after : Frame → State → run.State × Outcome) (out more : Written)
    → OnOk result (more ≡ with_text out (refusal_line n (fault_of fault))) → OnOk result (new ≡ record x { counts = with_refused x.counts })
    → ((f : Frame) (s : State) → Represents f x s → after f s ≡ (s.log, Refused fault)) → OnOk result (BringsAll x new n after out more)
refuse_brings result x new n fault after out more w m is = both_ok result _ _ (BringsAll x new n after out more) w m
    (λ w m f s r. refused_brings f x s r n fault (after f s) new out more (is f s r) m w)

-- ---- dates

pub date_fine : (y : LayersState) (d : ℕ) → Ok tt ≡ answer_by (test_refusal y d) → nat_lt d (horizon_in y) ≡ false
date_fine y d h = fine_by y.stopped (nat_lt d (horizon_in y)) (horizon_in y) d h

module _ (f : Frame) (x : Session) (s : State) (r : Represents f x s) (e : Event) where
  -- the date of an event is before the horizon
  pub late_is : (date horizon : ℕ) → Err (Late date horizon) ≡ answer_by (test_refusal x.layers e.date)
      → after_ordered (log_setting f) (full_in f s) s.log (Happens e) ≡ (s.log, Refused (run.Late date horizon))
  late_is date horizon h =
      let l = late_by x.layers.stopped (nat_lt e.date (horizon_in x.layers)) date (horizon_in x.layers) e.date horizon h in
      let is : nat_lt e.date s.log.horizon ≡ true = ap (nat_lt e.date) (sym (horizon_read f x s r)) ∙ l.0 in
      λ i. cond (is i) (s.log, Refused (run.Late (sym l.1 i) ((sym (horizon_read f x s r) ∙ sym l.2) i)))
      (after_verdict (log_setting f) (full_in f s) s.log e (known_of f.models.names e))

  -- an event that isn't late becomes what is known of its name
  pub verdict_by : (v : Verdict) → nat_lt e.date (horizon_in x.layers) ≡ false → known_of (map (name_seen x.symbols.texts) x.layers.plans.names) e ≡ v
      → after_ordered (log_setting f) (full_in f s) s.log (Happens e) ≡ after_verdict (log_setting f) (full_in f s) s.log e v
  verdict_by v fine says =
      let due : nat_lt e.date s.log.horizon ≡ false = ap (nat_lt e.date) (sym (horizon_read f x s r)) ∙ fine in
      let known : known_of f.models.names e ≡ v = ap (λ ns. known_of ns e) r.models.names ∙ says in
      λ i. cond (due i) (s.log, Refused (run.Late e.date s.log.horizon)) (after_verdict (log_setting f) (full_in f s) s.log e (known i))

  pub verdict_is : (plans : Plans) (v : Verdict) → Ok tt ≡ answer_by (test_refusal x.layers e.date)
      → plans ≡ x.layers.plans → known_of (map (name_seen x.symbols.texts) plans.names) e ≡ v
      → after_ordered (log_setting f) (full_in f s) s.log (Happens e) ≡ after_verdict (log_setting f) (full_in f s) s.log e v
  verdict_is plans v fine same says =
      verdict_by v (date_fine x.layers e.date fine) (ap (λ (p : Plans). known_of (map (name_seen x.symbols.texts) p.names) e) (sym same) ∙ says)

  module _ (place : ℕ) (due : horizon_in x.layers ≤ e.date) (named : known_of (map (name_seen x.symbols.texts) x.layers.plans.names) e ≡ Named place) where
    named_is : after_ordered (log_setting f) (full_in f s) s.log (Happens e) ≡ cond (full_in f s) (s.log, Refused (run.Full f.entries)) (after_named (log_setting f) s.log e)
    named_is = verdict_by (Named place) (le-ltb e.date (horizon_in x.layers) due) named

    -- some stratum accepted as many entries as may be
    pub full_is : is_full_in x.layers ≡ true → after_ordered (log_setting f) (full_in f s) s.log (Happens e) ≡ (s.log, Refused (run.Full x.entries))
    full_is full =
        let yes : full_in f s ≡ true = sym (full_read (setting_of f) s x.layers r.stand) ∙ full in
        named_is ∙ (λ i. cond (yes i) (s.log, Refused (run.Full (sym r.most_here i))) (after_named (log_setting f) s.log e))

    module _ (open_ : is_full_in x.layers ≡ false) where
      open_is : after_ordered (log_setting f) (full_in f s) s.log (Happens e) ≡ after_named (log_setting f) s.log e
      open_is =
          let spare : full_in f s ≡ false = sym (full_read (setting_of f) s x.layers r.stand) ∙ open_ in
          named_is ∙ (λ i. cond (spare i) (s.log, Refused (run.Full f.entries)) (after_named (log_setting f) s.log e))

      room_by : (limit : ℕ) (h : ℕ → ℕ) (last delay : ℕ) (ps : List Plan) (ks : List ℕ) (focus : Bool) (ss : List (Stratum Sym)) (ls : List Layer) → AreLayersOf ps ks focus limit 0 ls
          → AreLayersAt h last delay 0 ss ls → 0 < length ss → list_any (λ l. l.engine.accepted == l.engine.limit) ls ≡ false → first_of (λ e. e.accepted) ls < limit
      room_by limit h last delay ps ks focus [] ls o k some spare = absurd (omega (arith, some))
      room_by limit h last delay ps ks focus (t ∷ ss) [] o k some spare = absurd k
      room_by limit h last delay ps ks focus (t ∷ ss) (l ∷ ls) o k some spare =
          let few = k.0.few in
          let own = o.0.own_limit in
          let first : (l.engine.accepted == l.engine.limit) ≡ false = left (l.engine.accepted == l.engine.limit) _ spare in
          grind (arith, few, own, first)
        where
          left : (a b : Bool) → (a || b) ≡ false → a ≡ false
          left false b h = refl
          left true b h = h

      pub has_room : length s.log.accepted < f.entries
      has_room =
          let l = room_by x.layers.limit (horizon_of (setting_of f) s.log) s.log.last s.log.delay (plans_of x.layers.plans) r.stand.numbers x.layers.focus r.stand.strata x.layers.layers r.stand.of r.stand.at
          (strata_some f x s r) open_ in
          let limit = r.stand.limit in
          let count = r.count in
          omega (arith, l, limit, count)

      room_is : nat_lt (length s.log.accepted) f.entries ≡ true
      room_is = lt-ltb (length s.log.accepted) f.entries has_room

      new_is : length s.log.texts + length (new_texts s.log.texts (texts_of e)) ≡ length x.symbols.texts + length (new_texts x.symbols.texts (texts_of e))
      new_is = ap (λ (t : List (List ℕ)). length t + length (new_texts t (texts_of e))) r.texts

      abbrev entry : LogEntry
      entry = entry_of_event (length s.log.accepted) e

      -- its symbols don't fit
      pub values_is : (limit : ℕ) → limit ≡ x.symbols.limit → x.symbols.limit < length x.symbols.texts + length (new_texts x.symbols.texts (texts_of e))
          → after_ordered (log_setting f) (full_in f s) s.log (Happens e) ≡ (s.log, Refused (run.Values limit))
      values_is limit is over =
          let big : nat_le (length s.log.texts + length (new_texts s.log.texts (texts_of e))) f.symbols ≡ false = grind (arith, new_is, r.models.limit) in
          let lim : f.symbols ≡ limit = sym r.models.limit ∙ sym is in
          open_is ∙ (λ i. cond (room_is i) (cond (big i) (with_entry s.log entry e, Accepted entry) (s.log, Refused (run.Values (lim i)))) (s.log, Refused (run.Full f.entries)))

      taken_is : length x.symbols.texts + length (new_texts x.symbols.texts (texts_of e)) ≤ x.symbols.limit
          → after_ordered (log_setting f) (full_in f s) s.log (Happens e) ≡ (with_entry s.log entry e, Accepted entry)
      taken_is fits =
          let small : nat_le (length s.log.texts + length (new_texts s.log.texts (texts_of e))) f.symbols ≡ true = grind (arith, new_is, r.models.limit) in
          open_is ∙ (λ i. cond (room_is i) (cond (small i) (with_entry s.log entry e, Accepted entry) (s.log, Refused (run.Values f.symbols))) (s.log, Refused (run.Full f.entries)))

      abbrev further : State
      further = record { log = with_entry s.log entry e; strata = map (with_logged entry) s.strata }

      -- ---- what recognition reads stays

      filter_last : (p : LogEntry → Bool) (ys : List LogEntry) (y : LogEntry) → p y ≡ false → filter p (ys ++ y ∷ []) ≡ filter p ys
      filter_last p [] y q = λ i. cond (q i) (y ∷ []) []
      filter_last p (z ∷ ys) y q = λ i. cond (p z) (z ∷ filter_last p ys y q i) (filter_last p ys y q i)

      view_stays : (t : Stratum (List ℕ)) (h : ℕ) → t.marked ≤ length t.accepted → h ≤ e.date → view_in (with_logged entry t) h ≡ view_in t h
      view_stays t h marked low =
          let late : nat_lt e.date h ≡ false = le-ltb e.date h low in
          let later : nat_lt (length t.accepted) t.marked ≡ false = le-ltb (length t.accepted) t.marked marked in
          let y : LogEntry = record entry { arrival = length t.accepted } in
          λ i. record {
            settled = in_key_order (filter_last (λ z. nat_lt z.date h) t.accepted y late i);
            arrived = in_key_order (filter_last (λ z. nat_lt z.arrival t.marked) t.accepted y later i);
            horizon = h;
          }

      views_stay : (h : ℕ → ℕ) (last delay j : ℕ) (texts : List (List ℕ)) → ((i : ℕ) → h i ≤ e.date) → (ts : List (Stratum Sym)) (ls : List Layer) → AreLayersAt h last delay j ts ls
          → views_from h j (map (with_logged entry) (map (stratum_in texts) ts)) ≡ views_from h j (map (stratum_in texts) ts)
      views_stay h last delay j texts low [] ls k = refl
      views_stay h last delay j texts low (t ∷ ts) [] k = absurd k
      views_stay h last delay j texts low (t ∷ ts) (l ∷ ls) k =
          let a = k.0.count in
          let b = k.0.marked in
          let c = k.0.stands.counted in
          let rest = views_stay h last delay (suc j) texts low ts ls k.1 in
          let here = view_stays (stratum_in texts t) (h j) (omega (arith, a, b, c, length-map t.accepted (renamed_entry (text_in texts)))) (low j) in
          λ i. here i ∷ rest i

      low_all : e.date < 2 ^ 40 → (j : ℕ) → horizon_of (setting_of f) s.log j ≤ e.date
      low_all date j = by s.log.ended refl
        where
          by : (b : Bool) → s.log.ended ≡ b → horizon_behind b s.log.horizon (behind f.placed j) ≤ e.date
          by true q = let c = (r.closed q).0 in let h = horizon_read f x s r in absurd (omega (arith, c, h, due, date))
          by false q = let h = horizon_read f x s r in omega (arith, h, due)

      stay : e.date < 2 ^ 40 → views_of (setting_of f) further ≡ views_of (setting_of f) s
      stay date =
          (λ i. views_from (horizon_of (setting_of f) s.log) 0 (map (with_logged entry) (sym r.stand.seen i)))
          ∙ views_stay (horizon_of (setting_of f) s.log) s.log.last s.log.delay 0 s.log.texts (low_all date) r.stand.strata x.layers.layers r.stand.at
          ∙ (λ i. views_from (horizon_of (setting_of f) s.log) 0 (r.stand.seen i))

      -- ---- the event is accepted

      module _ (date : e.date < 2 ^ 40) (n : ℕ) (new : LayersState) (table : Table) (en : CodeEntry) (goes : GoOnBy 1 x.layers new) (takes : TakeEntry x.layers new (entry_of en))
          (texts : table.texts ≡ with_texts x.symbols.texts (texts_of e)) (limit : table.limit ≡ x.symbols.limit)
          (fits : length x.symbols.texts + length (new_texts x.symbols.texts (texts_of e)) ≤ x.symbols.limit)
          (seen : entry_seen table.texts en ≡ entry_of_event (accepted_in x.layers) e) (known : IsEntryIn table.texts en) where
        abbrev effect : Effect
        effect = record {
          number = n;
          outcome = Accepted entry;
          given = [];
          flood = false;
          was = views_of (setting_of f) s;
          now = views_of (setting_of f) further;
          answers = [];
        }

        texts_then : further.log.texts ≡ table.texts
        texts_then = ap (λ (t : List (List ℕ)). with_texts t (texts_of e)) r.texts ∙ sym texts

        is : IsItemEffect (setting_of f) s n (Happens e) effect further
        is = record {
          number = refl;
          log = taken_is fits;
          strata = (refl, refl);
          flood = sym (none_flooded f.entries s.strata);
          was = refl;
          now = refl;
          answers = refl;
        }

        accepted_as : IsAcceptedAs (entry_of en) effect further
        accepted_as = record {
          known = subst (λ (t : List (List ℕ)). IsEntryOf (HasText t) (entry_of en)) (sym texts_then) known;
          accepted =
              ap Accepted (ap (λ (k : ℕ). entry_of_event k e) r.count ∙ sym seen ∙ (λ i. renamed_entry (text_in (sym texts_then i)) (entry_of en)));
        }

        models_then : HasModels f x.layers.plans table
        models_then =
            let g = texts_grow x.symbols.texts (texts_of e) in
            let now : table.texts ≡ x.symbols.texts ++ g.0 = texts ∙ g.1 in
            let grown : HasModels f x.layers.plans (record { texts = x.symbols.texts ++ g.0; limit = x.symbols.limit }) =
            models_grown x.symbols.texts g.0 f x.layers.plans x.symbols.limit r.models (subst AreDistinct g.1 (with_apart x.symbols.texts (texts_of e) r.models.distinct)) in
            let table_is : record { texts = x.symbols.texts ++ g.0; limit = x.symbols.limit } ≡ table = (λ i. record { texts = sym now i; limit = sym limit i }) in
            subst (HasModels f x.layers.plans) table_is grown

        state : Represents f (record x { layers = new; symbols = table }) further
        state = record {
          models = subst (λ (p : Plans). HasModels f p table) (sym goes.same_plans) models_then;
          stand = takes (setting_of f) s n e effect further r.stand is accepted_as;
          texts = texts_then;
          strata = length-map s.strata (with_logged entry) ∙ r.strata;
          count = let a = r.count in let b = goes.accepted in omega (arith, a, b, length-append s.log.accepted (entry ∷ []));
          few = omega (arith, has_room, length-append s.log.accepted (entry ∷ []));
          most_here = r.most_here;
          reached = r.reached;
          closed = r.closed;
          cite = r.cite;
          ended = r.ended;
          peaked = subst (λ (b : Bool). IsPeaked b f.placed (views_of (setting_of f) further) x.counts.peak) (sym goes.same_focus)
              (subst (λ v. IsPeaked x.layers.focus f.placed v x.counts.peak) (sym (stay date)) r.peaked);
        }

        pub accept_brings : (out : Written)
            → Brings f x.layers.focus x.counts (record x { layers = new; symbols = table }) n s (after_ordered (log_setting f) (full_in f s) s.log (Happens e)) out out
        accept_brings out = record {
          effect = effect;
          next = further;
          is = is;
          state = state;
          same_focus = goes.same_focus;
          written = sym (append-nil out.text);
          found = [];
          notices = refl;
          filled = tt;
          added = sym (append-nil out.found);
          live = r.peaked.0;
          all_live = subst (λ v. AllLive x.layers.focus f.placed v r.peaked.0) (sym (stay date)) r.peaked.1;
          counted = counted_passed x.counts r.peaked.0 r.peaked.2;
        }
