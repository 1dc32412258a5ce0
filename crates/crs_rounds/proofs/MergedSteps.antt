-- What a line of a feed brings.
use Rattle.std.proofs.Common.{◌≡◌, ◌∙◌, ap, sym, refl, subst, ℕ, ◌<◌, ◌≤◌, Bool, true, false, cond, List, [], ◌∷◌, ◌++◌, length, get_or, set, slice_get, map, nat_lt}
use Rattle.std.proofs.Common.{arith, append-nil, le_refl, Option, Some, None, Result, Err, true≢false}
use Rattle.std.specs.Prelude.{◌||◌, OnOk, if◌then◌else◌}
use Rattle.std.specs.List.{AllByRecursion}
use Rattle.std.proofs.lemmas.Bool.{le-ltb}
use Rattle.std.proofs.lemmas.List.{set-get_or}
use Rattle.crs_base.specs.Entry.{Entry}
use Rattle.crs_model.specs.declared.plan.Plans.{Plans}
use Rattle.crs_model.specs.Models.{Chronicle}
use Rattle.crs_model.specs.Renaming.{text_in, renamed_entry, IsEntryOf}
use Rattle.crs_engine.specs.Engines.{plans_of}
use Rattle.crs_log.specs.Items.{Item, Delay, Clock, Finish}
use Rattle.crs_model.specs.declared.recognition.Mark.TheVariants as marks
use Rattle.crs_engine.specs.EngineRefusals.{IsRefusedAs}
use Rattle.crs_engine.specs.declared.refused.Refused.TheVariants.{Stopped, Back}
use Rattle.crs_rounds.specs.declared.merged.Origin.{Origin}
use Rattle.crs_frames.proofs.Results.{both_ok}
use Rattle.crs_log.specs.Reading.{Given, Plain, Long, number_of}
use Rattle.crs_log.specs.Run as run
use Rattle.crs_log.specs.Run.{Setting, State, Outcome, Passed, Refused, Marked, after_line, after_what, after_ordered}
use Rattle.crs_feeds.specs.declared.feed.Feed.{Feed}
use Rattle.crs_feeds.specs.declared.rising.Rise.{Rise}
use Rattle.crs_feeds.specs.Merged.{Merged, Pair, new_feed, at_start, seen_by, with_feeds, with_state, after_met, after_pair, common, has_risen, clocked, closed}
use Rattle.crs_feeds.specs.Standing.{StandBehind, run_behind, IsItemOf, AnswersRise, TakeItem, TakeMark}
use Rattle.crs_feeds.specs.States.{FeedsState}
use Rattle.crs_feeds.proofs.Horizons.{common_stays, length_set}
use Rattle.crs_feeds.proofs.Standing.{idle_pairs_need_no_call}
use Rattle.crs_feeds.proofs.Stepping.{one_more_pair, got, with_same_feeds}
use Rattle.crs_rounds.specs.declared.merged.MergedSession.{MergedSession}
use Rattle.crs_rounds.specs.MergedSession.{StandsBehind, BringsPair, BringsLine, BringsItem, feeds_of, run_at, rise_lines, IsPrintableRise}
use Rattle.crs_rounds.specs.PairTexts.{feed_refusal, refusal_of, AreRiseAnswers, IsPairText}
use Rattle.crs_layers.specs.Standing.{HasText}
use Rattle.crs_frames.specs.TableTexts.{HasModels, entries_in}
use Rattle.crs_frames.specs.Frames.{Frame, log_setting, fault_of, is_refused}
use Rattle.crs_rounds.proofs.FeedOrder.{pair}
use Rattle.crs_rounds.proofs.MergedRises.{rise_printable, rise_answers}
use Rattle.crs_model.specs.declared.recognition.Mark.{Mark}

pub or_true : (b : Bool) → true ≡ (b || true)
or_true true = refl
or_true false = refl

pub or_false : (b : Bool) → b ≡ (b || false)
or_false true = refl
or_false false = refl

pub no_rise : (fs : List Feed) → has_risen fs fs ≡ false
no_rise fs = le-ltb (common fs) (common fs) (le_refl (common fs))

-- without a rise nothing is answered
pub silent : (cs : List (Chronicle (List ℕ))) (b : Bool) (was now : Merged) → b ≡ false → AreRiseAnswers cs b was now []
silent cs false was now e = refl
silent cs true was now e = absurd (true≢false e)

-- a line that is an item, which doesn't stand behind the end
pub line_is : (c : Setting) (s : State) (item : Item) (g : Given) → IsItemOf item g → s.ended ≡ false → after_line c s g ≡ after_ordered c s item
line_is c s item (Long number) is going = absurd is
line_is c s item (Plain number bytes) is going =
    ap (after_what c s) is ∙ (λ i. cond (going i) (s, Refused run.Order) (after_ordered c s item))

module _ (f : Frame) (x : MergedSession) (ps : List Pair) (r : StandsBehind f x ps) (n : ℕ) (l : n < feeds_of x) where
  abbrev c : Setting
  c = log_setting f

  abbrev m : Merged
  m = run_at f x ps

  abbrev own : Feed
  own = get_or x.feeds.feeds n new_feed

  there : slice_get m.feeds n ≡ Some own
  there = ap (λ (fs : List Feed). slice_get fs n) (sym r.stand.run.feeds) ∙ got x.feeds.feeds n l

  pub after_is : (g : Given) → after_pair c m (pair n g) ≡ (with_state m n (after_line c (seen_by m own) g).0, (after_line c (seen_by m own) g).1)
  after_is g = ap (after_met c m n g) there

  pub same_feeds : set m.feeds n own ≡ m.feeds
  same_feeds = ap (λ (fs : List Feed). set m.feeds n (get_or fs n new_feed)) r.stand.run.feeds ∙ set-get_or m.feeds n new_feed

  stays : with_state m n (seen_by m own) ≡ m
  stays = ap (with_feeds m) same_feeds ∙ with_same_feeds m

  -- a line that changes nothing
  idle : (g : Given) (o : Outcome) → after_line c (seen_by m own) g ≡ (seen_by m own, o) → after_pair c m (pair n g) ≡ (m, o)
  idle g o e =
      after_is g ∙ ap (λ (a : State × Outcome). (with_state m n a.0, a.1)) e ∙ ap (λ (q : Merged). (q, o)) stays

  pub run_more : (g : Given) → run_at f x (ps ++ pair n g ∷ []) ≡ (after_pair c m (pair n g)).0
  run_more g = one_more_pair c (at_start f.texts (feeds_of x)) ps (pair n g)

  idle_behind : (g : Given) (o : Outcome) → after_pair c m (pair n g) ≡ (m, o) → StandsBehind f x (ps ++ pair n g ∷ [])
  idle_behind g o e =
      let same : run_at f x (ps ++ pair n g ∷ []) ≡ m = run_more g ∙ ap (λ (a : Merged × Outcome). a.0) e in
      record {
        models = r.models;
        stand = idle_pairs_need_no_call c f.texts ps (pair n g) x.feeds r.stand (ap (λ (a : Merged × Outcome). a.0) e);
        texts = ap (λ (q : Merged). q.texts) same ∙ r.texts;
        few = subst (λ (q : Merged). length q.accepted ≤ f.entries) (sym same) r.few;
        most_here = r.most_here;
      }

  idle_text : (g : Given) (o : Outcome) → after_pair c m (pair n g) ≡ (m, o)
      → IsPairText f.models.chronicles (pair n g) m (after_pair c m (pair n g)) (refusal_of (pair n g) o)
  idle_text g o e =
      subst (λ (a : Merged × Outcome). IsPairText f.models.chronicles (pair n g) m a (refusal_of (pair n g) o)) (sym e)
      ([], silent f.models.chronicles (has_risen m.feeds m.feeds) m m (no_rise m.feeds), sym (append-nil (refusal_of (pair n g) o)))

  noted : (y : MergedSession) → y ≡ record x { refused = true } → (qs : List Pair) → StandsBehind f x qs → StandsBehind f y qs
  noted y e qs k = subst (λ (z : MergedSession). StandsBehind f z qs) (sym e)
      (record { models = k.models; stand = k.stand; texts = k.texts; few = k.few; most_here = k.most_here })

  -- a refused line
  pub refused_brings : (g : Given) (fault : run.Fault) (y : MergedSession) (out more : List ℕ)
      → after_line c (seen_by m own) g ≡ (seen_by m own, Refused fault) → y ≡ record x { refused = true }
      → more ≡ out ++ feed_refusal n (number_of g) (fault_of fault) → BringsPair f x y ps (pair n g) out more
  refused_brings g fault y out more e is written =
      let i = idle g (Refused fault) e in
      record {
        state = noted y is (ps ++ pair n g ∷ []) (idle_behind g (Refused fault) i);
        count = ap feeds_of is;
        text = feed_refusal n (number_of g) (fault_of fault);
        is_text = idle_text g (Refused fault) i;
        written = written;
        refused = ap (λ (z : MergedSession). z.refused) is ∙ or_true x.refused ∙ ap (λ (a : Merged × Outcome). x.refused || is_refused a.1) (sym i);
      }

  -- a line that is passed over
  pub passed_brings : (g : Given) (out : List ℕ) → after_line c (seen_by m own) g ≡ (seen_by m own, Passed) → BringsPair f x x ps (pair n g) out out
  passed_brings g out e =
      let i = idle g Passed e in
      record {
        state = idle_behind g Passed i;
        count = refl;
        text = [];
        is_text = idle_text g Passed i;
        written = sym (append-nil out);
        refused = or_false x.refused ∙ ap (λ (a : Merged × Outcome). x.refused || is_refused a.1) (sym i);
      }

  module _ (going : own.ended ≡ false) where
    pub ordered : (item : Item) (g : Given) → IsItemOf item g
        → after_pair c m (pair n g) ≡ (with_state m n (after_ordered c (seen_by m own) item).0, (after_ordered c (seen_by m own) item).1)
    ordered item g is =
        after_is g ∙ ap (λ (a : State × Outcome). (with_state m n a.0, a.1)) (line_is c (seen_by m own) item g is going)

    -- other clocks of a feed, by a line that isn't refused
    module _ (g : Given) (now : Merged) (o : Outcome) (is : after_pair c m (pair n g) ≡ (now, o)) (texts : now.texts ≡ m.texts) (entries : now.accepted ≡ m.accepted)
        (clean : is_refused o ≡ false) (fs : FeedsState) (plans : fs.engine.plans ≡ x.feeds.engine.plans) (long : length fs.feeds ≡ feeds_of x)
        (stand : StandBehind c f.texts (ps ++ pair n g ∷ []) fs) where
      abbrev next : MergedSession
      next = record x { feeds = fs }

      next_is : run_at f next (ps ++ pair n g ∷ []) ≡ now
      next_is = ap (λ (k : ℕ). run_behind c f.texts k (ps ++ pair n g ∷ [])) long ∙ run_more g ∙ ap (λ (a : Merged × Outcome). a.0) is

      moved_behind : StandsBehind f next (ps ++ pair n g ∷ [])
      moved_behind = record {
        models = subst (λ (q : Plans). HasModels f q x.symbols) (sym plans) r.models;
        stand = stand;
        texts = ap (λ (q : Merged). q.texts) next_is ∙ texts ∙ r.texts;
        few = subst (λ (es : List (Entry (List ℕ))). length es ≤ f.entries) (sym (ap (λ (q : Merged). q.accepted) next_is ∙ entries)) r.few;
        most_here = r.most_here;
      }

      pub moved_brings : (text out more : List ℕ) → IsPairText f.models.chronicles (pair n g) m (now, o) text → more ≡ out ++ text
          → BringsPair f x next ps (pair n g) out more
      moved_brings text out more k written = record {
        state = moved_behind;
        count = long;
        text = text;
        is_text = subst (λ (a : Merged × Outcome). IsPairText f.models.chronicles (pair n g) m a text) (sym is) k;
        written = written;
        refused = or_false x.refused ∙ ap (λ (b : Bool). x.refused || b) (sym clean) ∙ ap (λ (a : Merged × Outcome). x.refused || is_refused a.1) (sym is);
      }

    -- another delay
    pub delay_brings : (d : ℕ) (g : Given) (out : List ℕ) → IsItemOf (Delay d) g
        → TakeItem x.feeds (record x.feeds { feeds = set x.feeds.feeds n (record own { delay = d }) }) n (Delay d)
        → BringsPair f x (record x { feeds = record x.feeds { feeds = set x.feeds.feeds n (record own { delay = d }) } }) ps (pair n g) out out
    delay_brings d g out is take =
        let h : Feed = record own { delay = d } in
        let now : Merged = with_feeds m (set m.feeds n h) in
        let low : common (set m.feeds n h) ≡ common m.feeds = common_stays m.feeds n h (ap (λ (fs : List Feed). (get_or fs n new_feed).horizon) (sym r.stand.run.feeds)) in
        moved_brings g now Passed (ordered (Delay d) g is) refl refl refl (record x.feeds { feeds = set x.feeds.feeds n h }) refl (length_set x.feeds.feeds n h)
        (take c f.texts ps g is r.stand) [] out out
        ([], silent f.models.chronicles (has_risen m.feeds now.feeds) m now (le-ltb (common m.feeds) (common now.feeds) (omega (arith, low))), refl)
        (sym (append-nil out))

    -- a clock or an end that moved the feed's clocks on
    pub mark_brings : (item : Item) (g : Given) (h : Feed) (mark : Mark) (fs : FeedsState) (rise : Option Rise) (out more : List ℕ)
        → after_ordered c (seen_by m own) item ≡ (record (seen_by m own) { last = h.last; horizon = h.horizon; ended = h.ended; marked = length m.accepted }, Marked mark)
        → h.delay ≡ own.delay → IsItemOf item g
        → fs.engine.plans ≡ x.feeds.engine.plans → fs.feeds ≡ set x.feeds.feeds n h → TakeMark x.feeds fs n item rise
        → more ≡ out ++ rise_lines fs.engine.plans x.symbols.texts rise → BringsPair f x (record x { feeds = fs }) ps (pair n g) out more
    mark_brings item g h mark fs rise out more becomes delay is plans clocks take written =
        let now : Merged = (after_pair c m (pair n g)).0 in
        let s : State = record (seen_by m own) { last = h.last; horizon = h.horizon; ended = h.ended; marked = length m.accepted } in
        let all : after_pair c m (pair n g) ≡ (with_state m n s, Marked mark) = ordered item g is ∙ ap (λ (a : State × Outcome). (with_state m n a.0, a.1)) becomes in
        let t = take c f.texts ps g is r.stand in
        let k = r.stand.run in
        let seen : entries_in x.symbols.texts k.accepted ≡ m.accepted = ap (λ (ts : List (List ℕ)). map (renamed_entry (text_in ts)) k.accepted) (sym r.texts) ∙ k.seen in
        let known : AllByRecursion (IsEntryOf (HasText x.symbols.texts)) k.accepted = subst (λ (ts : List (List ℕ)). AllByRecursion (IsEntryOf (HasText ts)) k.accepted) r.texts k.known in
        let same : (after_pair c m (pair n g)).0 ≡ with_state m n s = ap (λ (a : Merged × Outcome). a.0) all in
        let answered : AnswersRise (plans_of x.feeds.engine.plans) k.accepted m (with_state m n s) rise =
        subst (λ (q : Merged). AnswersRise (plans_of x.feeds.engine.plans) k.accepted m q rise) same t.1 in
        let a = rise_answers f x.feeds.engine.plans x.symbols r.models k.accepted known m (with_state m n s) seen seen rise answered in
        moved_brings g (with_state m n s) (Marked mark) all refl refl refl fs plans (ap length clocks ∙ length_set x.feeds.feeds n h) t.0
        (rise_lines x.feeds.engine.plans x.symbols.texts rise) out more
        (a.0, a.1, a.2)
        (written ∙ ap (λ (q : Plans). out ++ rise_lines q x.symbols.texts rise) plans)

    -- what is new can be printed
    pub mark_printable : (item : Item) (g : Given) (h : Feed) (mark : Mark) (fs : FeedsState) (rise : Option Rise)
        → after_ordered c (seen_by m own) item ≡ (record (seen_by m own) { last = h.last; horizon = h.horizon; ended = h.ended; marked = length m.accepted }, Marked mark)
        → IsItemOf item g
        → fs.engine.plans ≡ x.feeds.engine.plans → TakeMark x.feeds fs n item rise → IsPrintableRise fs.engine.plans x.symbols.texts rise
    mark_printable item g h mark fs rise becomes is plans take =
        let k = r.stand.run in
        let all = ordered item g is ∙ ap (λ (a : State × Outcome). (with_state m n a.0, a.1)) becomes in
        let same : (after_pair c m (pair n g)).0.accepted ≡ m.accepted = ap (λ (a : Merged × Outcome). a.0.accepted) all in
        let seen : entries_in x.symbols.texts k.accepted ≡ m.accepted = ap (λ (ts : List (List ℕ)). map (renamed_entry (text_in ts)) k.accepted) (sym r.texts) ∙ k.seen in
        let known : AllByRecursion (IsEntryOf (HasText x.symbols.texts)) k.accepted = subst (λ (ts : List (List ℕ)). AllByRecursion (IsEntryOf (HasText ts)) k.accepted) r.texts k.known in
        subst (λ (q : Plans). IsPrintableRise q x.symbols.texts rise) (sym plans)
        (rise_printable f x.feeds.engine.plans x.symbols r.models k.accepted known m (after_pair c m (pair n g)).0 seen (seen ∙ sym same) rise (take c f.texts ps g is r.stand).1)

    -- a clock that isn't before the feed's last one
    in_time : (t : ℕ) → nat_lt t own.last ≡ false → after_ordered c (seen_by m own) (Clock t)
        ≡ (record (seen_by m own) { last = (clocked t own).last; horizon = (clocked t own).horizon; ended = (clocked t own).ended; marked = length m.accepted }, Marked (marks.Clock t))
    in_time t fine = λ i. cond (fine i) (seen_by m own, Refused (run.Back t own.last))
        (record (seen_by m own) { last = t; horizon = run.horizon_at own.delay own.horizon t; marked = length m.accepted }, Marked (marks.Clock t))

    pub clock_printable : (t : ℕ) (g : Given) (fs : FeedsState) (rise : Option Rise) → nat_lt t own.last ≡ false → IsItemOf (Clock t) g
        → fs.engine.plans ≡ x.feeds.engine.plans → TakeMark x.feeds fs n (Clock t) rise → IsPrintableRise fs.engine.plans x.symbols.texts rise
    clock_printable t g fs rise fine is plans take = mark_printable (Clock t) g (clocked t own) (marks.Clock t) fs rise (in_time t fine) is plans take

    pub clock_brings : (t : ℕ) (g : Given) (fs : FeedsState) (rise : Option Rise) (out more : List ℕ) → nat_lt t own.last ≡ false → IsItemOf (Clock t) g
        → fs.engine.plans ≡ x.feeds.engine.plans → fs.feeds ≡ set x.feeds.feeds n (clocked t own) → TakeMark x.feeds fs n (Clock t) rise
        → more ≡ out ++ rise_lines fs.engine.plans x.symbols.texts rise → BringsPair f x (record x { feeds = fs }) ps (pair n g) out more
    clock_brings t g fs rise out more fine is plans clocks take written =
        mark_brings (Clock t) g (clocked t own) (marks.Clock t) fs rise out more (in_time t fine) refl is plans clocks take written

    -- a clock before it is refused
    pub back_is : (t a b : ℕ) (g : Given) → nat_lt t own.last ≡ true → a ≡ t → b ≡ own.last → IsItemOf (Clock t) g
        → after_line c (seen_by m own) g ≡ (seen_by m own, Refused (run.Back a b))
    back_is t a b g early p q is =
        line_is c (seen_by m own) (Clock t) g is going
        ∙ (λ i. cond (early i) (seen_by m own, Refused (run.Back (sym p i) (sym q i)))
        (record (seen_by m own) { last = t; horizon = run.horizon_at own.delay own.horizon t; marked = length m.accepted }, Marked (marks.Clock t)))

    -- an end
    pub end_printable : (g : Given) (fs : FeedsState) (rise : Option Rise) → IsItemOf Finish g
        → fs.engine.plans ≡ x.feeds.engine.plans → TakeMark x.feeds fs n Finish rise → IsPrintableRise fs.engine.plans x.symbols.texts rise
    end_printable g fs rise is plans take = mark_printable Finish g (closed own) marks.Finish fs rise refl is plans take

    pub end_brings : (g : Given) (fs : FeedsState) (rise : Option Rise) (out more : List ℕ) → IsItemOf Finish g
        → fs.engine.plans ≡ x.feeds.engine.plans → fs.feeds ≡ set x.feeds.feeds n (closed own) → TakeMark x.feeds fs n Finish rise
        → more ≡ out ++ rise_lines fs.engine.plans x.symbols.texts rise → BringsPair f x (record x { feeds = fs }) ps (pair n g) out more
    end_brings g fs rise out more is plans clocks take written =
        mark_brings Finish g (closed own) marks.Finish fs rise out more refl refl is plans clocks take written

-- a clock that is answered by `back` is before the feed's last one
pub back_by : (A : Type 0) (stopped early : Bool) (t last a b : ℕ) → stopped ≡ false
    → IsRefusedAs {A = A} (if stopped then Some Stopped else (if early then Some (Back t last) else None)) (Err (Back a b))
    → (early ≡ true) × (a ≡ t) × (b ≡ last)
back_by A true early t last a b e h = absurd (true≢false e)
back_by A false true t last a b e h = (refl, cc, cc)
back_by A false false t last a b e h = let k = h (Back a b) refl in absurd cc

-- a refusal whose text was written, and that was noted
pub refuse_brings : {A E : Type 0} (result : Result A E) (x new : MergedSession) (n : ℕ) (g : Given) (fault : run.Fault) (out more : List ℕ) → n < feeds_of x
    → OnOk result (more ≡ out ++ feed_refusal n (number_of g) (fault_of fault)) → OnOk result (new ≡ record x { refused = true })
    → ((f : Frame) (ps : List Pair) → StandsBehind f x ps → after_line (log_setting f) (seen_by (run_at f x ps) (get_or x.feeds.feeds n new_feed)) g
    ≡ (seen_by (run_at f x ps) (get_or x.feeds.feeds n new_feed), Refused fault))
    → OnOk result (BringsLine x new n g out more)
refuse_brings result x new n g fault out more l w m is = both_ok result _ _ (BringsLine x new n g out more) w m
    (λ w m f ps r. refused_brings f x ps r n l g fault new out more (is f ps r) m w)

-- so of each line that is the item
pub refuse_item : {A E : Type 0} (result : Result A E) (x new : MergedSession) (origin : Origin) (item : Item) (fault : run.Fault) (out more : List ℕ) → origin.feed < feeds_of x
    → OnOk result (more ≡ out ++ feed_refusal origin.feed origin.number (fault_of fault)) → OnOk result (new ≡ record x { refused = true })
    → ((g : Given) → IsItemOf item g → (f : Frame) (ps : List Pair) → StandsBehind f x ps
    → after_line (log_setting f) (seen_by (run_at f x ps) (get_or x.feeds.feeds origin.feed new_feed)) g
    ≡ (seen_by (run_at f x ps) (get_or x.feeds.feeds origin.feed new_feed), Refused fault))
    → OnOk result (BringsItem x new origin item out more)
refuse_item result x new origin item fault out more l w m is = both_ok result _ _ (BringsItem x new origin item out more) w m
    (λ w m g e k f ps r. refused_brings f x ps r origin.feed l g fault new out more (is g k f ps r) m
    (w ∙ ap (λ (number : ℕ). out ++ feed_refusal origin.feed number (fault_of fault)) (sym e)))
