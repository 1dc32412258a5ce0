-- What feeds stand for once a line takes them on.
use Rattle.std.proofs.Common.{◌≡◌, ◌≢◌, ℕ, ◌+◌, ◌<◌, ◌≤◌, Bool, true, false, cond, List, [], ◌∷◌, ◌++◌, length, get_or, set, slice_get, map, replicate, refl, sym, ap, subst, ◌∙◌, arith}
use Rattle.std.proofs.Common.{Option, Some, None, Result, Ok, Err, inl, inr, length-append, lt-ltb, true≢false}
use Rattle.std.proofs.lemmas.Bool.{le-ltb}
use Rattle.std.specs.Prelude.{OnOk, IfOk, IsTrue, ◌↔◌, ◌⊎◌}
use Rattle.std.proofs.lemmas.List.{map-append}
use Rattle.std.specs.List.{AllByRecursion}
use Rattle.crs_base.specs.declared.symbols.Sym.{Sym}
use Rattle.crs_base.specs.Entry.{Entry}
use Rattle.crs_base.specs.Symbols.{with_texts}
use Rattle.crs_base.specs.Words.{IsIn}
use Rattle.crs_base.proofs.Words.{in_map, ordered_append}
use Rattle.crs_base.proofs.Alls.{all_append}
use Rattle.crs_model.specs.declared.plan.Plan.{Plan}
use Rattle.crs_model.specs.declared.plan.Plans.{Plans}
use Rattle.crs_model.specs.Matching.{AreDistinct}
use Rattle.crs_model.specs.Order.{put_in_order, in_key_order, dated_before, arrived}
use Rattle.crs_model.specs.Plans.{chronicle}
use Rattle.crs_model.specs.Scopes.{Scope, scope_of}
use Rattle.crs_model.specs.Open.{before}
use Rattle.crs_model.specs.Renaming.{text_in, renamed_entry, IsEntryOf}
use Rattle.crs_model.proofs.Agreed.{same_entries, entries_more}
use Rattle.crs_log.specs.Items.{Item, Delay, Clock, Finish}
use Rattle.crs_log.specs.Known.{texts_of}
use Rattle.crs_log.specs.Reading.{Given}
use Rattle.crs_log.specs.Run.{Setting}
use Rattle.crs_log.specs.SeenNames.{name_seen}
use Rattle.crs_log.proofs.Parts.{kept_all}
use Rattle.crs_engine.specs.Engines.{EngineState, StandsFor, HasAccepted, plans_of, scope_at, since}
use Rattle.crs_engine.specs.Marks.{ListsAllNew}
use Rattle.crs_engine.specs.declared.refused.Refused.{Refused}
use Rattle.crs_engine.specs.declared.refused.Refused.TheVariants.{Memory}
use Rattle.crs_engine.proofs.Marking.{moved_forward}
use Rattle.crs_feeds.specs.declared.feed.Feed.{Feed}
use Rattle.crs_feeds.specs.declared.rising.Rise.{Rise}
use Rattle.crs_feeds.specs.Merged.{Merged, Pair, new_feed, with_feeds, after_pair, common, clocked, closed}
use Rattle.crs_feeds.specs.States.{FeedsState, AreFeeds, IsSameEngine, HasRisen, IsRise}
use Rattle.crs_feeds.specs.Standing.{HasText, StandFor, run_behind, StandBehind, StandAtStart, IdlePairsNeedNoCall, IsItemOf, TakeItem, scope_in_run, AnswersRise, TakeMark, TakeEntry}
use Rattle.crs_feeds.proofs.Horizons.{length_new, length_set, common_low, common_stays}
use Rattle.crs_feeds.proofs.Parting.{since_later, both_parts, arrived_parts, before_later, before_last, since_last}
use Rattle.crs_feeds.proofs.Stepping.{one_more_pair, got, delay_leaves, clock_leaves, end_leaves, no_rise, IsOneMore, entry_leaves}

-- ---- other clocks

module _ (m : Merged) (old new : FeedsState) (k : StandFor m old) (fs : List Feed) (clocks : new.feeds ≡ fs) (running : new.engine.stopped ≡ false) where
  abbrev h : ℕ
  h = common fs

  risen_on : (r : Option Rise) → HasRisen old.engine new.engine fs r → StandFor (with_feeds m fs) new
  risen_on None p =
      let stays : h ≡ common m.feeds = p.0 ∙ k.horizon in
      record {
        feeds = clocks;
        running = running;
        horizon = ap (λ (e : EngineState). e.horizon) p.1 ∙ sym p.0;
        accepted = k.accepted;
        distinct = k.distinct;
        known = k.known;
        seen = k.seen;
        count = ap (λ (e : EngineState). e.accepted) p.1 ∙ k.count;
        marked = ap (λ (e : EngineState). e.marked) p.1 ∙ k.marked ∙ sym (no_rise m fs (omega (arith, stays)));
        stands =
            subst (λ (e : EngineState). StandsFor e (dated_before h k.accepted) (in_key_order (since h k.accepted))) (sym p.1)
            (subst (λ (n : ℕ). StandsFor old.engine (dated_before n k.accepted) (in_key_order (since n k.accepted))) (sym stays) k.stands);
      }
  risen_on (Some r) p =
      let g : ℕ = common m.feeds in
      let up : g < h = subst (λ (n : ℕ). n < h) k.horizon p.0 in
      let at : new.engine.horizon ≡ h = moved_forward old.engine new.engine h h p.2 (let b = p.0 in omega (arith, b)) in
      let settled : List (Entry Sym) = dated_before g k.accepted in
      let waiting : List (Entry Sym) = in_key_order (since g k.accepted) in
      let low : AllByRecursion (λ x. x.date < g) settled = subst (λ (n : ℕ). AllByRecursion (λ x. x.date < n) settled) k.horizon k.stands.settled_before in
      let after = (p.3 settled waiting k.stands).stands in
      let there : StandsFor new.engine (settled ++ before h waiting) (since h waiting) =
      subst (λ (n : ℕ). StandsFor new.engine (settled ++ before n waiting) (since n waiting)) at after in
      record {
        feeds = clocks;
        running = running;
        horizon = at;
        accepted = k.accepted;
        distinct = k.distinct;
        known = k.known;
        seen = k.seen;
        count = p.2.same_count ∙ k.count;
        marked = p.2.marked ∙ k.count ∙ (λ i. cond (sym (lt-ltb g h up) i) (length m.accepted) m.marked);
        stands =
            subst (λ (us : List (Entry Sym)). StandsFor new.engine us (in_key_order (since h k.accepted)))
            (before_later g h k.accepted k.distinct (omega (arith, up)) k.stands.in_order low)
            (subst (StandsFor new.engine (settled ++ before h waiting)) (since_later g h k.accepted k.distinct (omega (arith, up))) there);
      }

  -- the rise is answered by what is new between the two runs
  answered_on : (r : Option Rise) → HasRisen old.engine new.engine fs r → AnswersRise (plans_of old.engine.plans) k.accepted m (with_feeds m fs) r
  unfolding risen_on
  answered_on None p = le-ltb (common m.feeds) h (let stays : h ≡ common m.feeds = p.0 ∙ k.horizon in omega (arith, stays))
  answered_on (Some r) p =
      let g : ℕ = common m.feeds in
      let up : g < h = subst (λ (n : ℕ). n < h) k.horizon p.0 in
      let now = risen_on (Some r) p in
      let settled : List (Entry Sym) = dated_before g k.accepted in
      let waiting : List (Entry Sym) = in_key_order (since g k.accepted) in
      let low : AllByRecursion (λ x. x.date < g) settled = subst (λ (n : ℕ). AllByRecursion (λ x. x.date < n) settled) k.horizon k.stands.settled_before in
      let due : settled ++ before new.engine.horizon waiting ≡ dated_before h k.accepted =
      ap (λ (n : ℕ). settled ++ before n waiting) now.horizon ∙ before_later g h k.accepted k.distinct (omega (arith, up)) k.stands.in_order low in
      let rest : since new.engine.horizon waiting ≡ in_key_order (since h k.accepted) =
      ap (λ (n : ℕ). since n waiting) now.horizon ∙ since_later g h k.accepted k.distinct (omega (arith, up)) in
      let had : arrived old.engine.marked (settled ++ waiting) ≡ in_key_order (arrived m.marked k.accepted) =
      arrived_parts old.engine.marked g k.accepted k.distinct k.stands.in_order ∙ ap (λ (n : ℕ). in_key_order (arrived n k.accepted)) k.marked in
      let came : arrived new.engine.marked ((settled ++ before new.engine.horizon waiting) ++ since new.engine.horizon waiting) ≡ in_key_order (arrived (with_feeds m fs).marked k.accepted) =
      (λ i. arrived new.engine.marked (due i ++ rest i))
      ∙ arrived_parts new.engine.marked h k.accepted k.distinct now.stands.in_order ∙ ap (λ (n : ℕ). in_key_order (arrived n k.accepted)) now.marked in
      let was : scope_at old.engine.marked settled waiting old.engine.horizon ≡ scope_in_run m k.accepted =
      (λ i q. scope_of (chronicle q) settled (had i) (k.horizon i)) in
      let then : scope_at new.engine.marked (settled ++ before new.engine.horizon waiting) (since new.engine.horizon waiting) new.engine.horizon ≡ scope_in_run (with_feeds m fs) k.accepted =
      (λ i q. scope_of (chronicle q) (due i) (came i) (now.horizon i)) in (
        lt-ltb g h up,
        p.1,
        subst (λ (s : Plan → Scope Sym). ListsAllNew (plans_of old.engine.plans) 0 r.mark s (scope_in_run (with_feeds m fs) k.accepted) r.list) was
            (subst (λ (s : Plan → Scope Sym). ListsAllNew (plans_of old.engine.plans) 0 r.mark (scope_at old.engine.marked settled waiting old.engine.horizon) s r.list) then
            (p.3 settled waiting k.stands).answers),
      )

-- ---- one more pair

taken_on : (c : Setting) (texts : List (List ℕ)) (ps : List Pair) (p : Pair) (old new : FeedsState) → StandBehind c texts ps old
    → new.engine.plans ≡ old.engine.plans → new.engine.limit ≡ old.engine.limit → length new.feeds ≡ length old.feeds
    → StandFor (after_pair c (run_behind c texts (length old.feeds) ps) p).0 new → StandBehind c texts (ps ++ p ∷ []) new
taken_on c texts ps p old new b plans limit long k = record {
  names = b.names ∙ ap (λ (q : Plans). map (name_seen texts) q.names) (sym plans);
  limit = b.limit ∙ sym limit;
  run =
      subst (λ (n : ℕ). StandFor (run_behind c texts n (ps ++ p ∷ [])) new) (sym long)
      (subst (λ (m : Merged). StandFor m new) (sym (one_more_pair c _ ps p)) k);
}

going : (b : Bool) (r : Option Rise) → (IsTrue b ↔ (◌≡◌ {A = Result (Option Rise) Refused} (Ok r) (Err Memory))) → b ≡ false
going false r h = refl
going true r h = absurd (let e = h.0 refl in cc)

pub idle_pairs_need_no_call : IdlePairsNeedNoCall
idle_pairs_need_no_call c texts ps p s b same =
    taken_on c texts ps p s s b refl refl refl (subst (λ (m : Merged). StandFor m s) (sym same) b.run)

module _ (old new : FeedsState) (n : ℕ) (l : n < length old.feeds) where
  abbrev own : Feed
  own = get_or old.feeds n new_feed

  own_there : (m : Merged) → StandFor m old → slice_get m.feeds n ≡ Some own
  own_there m k = ap (λ (fs : List Feed). slice_get fs n) (sym k.feeds) ∙ got old.feeds n l

  -- a line of the feed that leaves other clocks
  abbrev Leaves : Item → Feed → Type 0
  Leaves item f = (c : Setting) (m : Merged) (g : Given) → slice_get m.feeds n ≡ Some own → IsItemOf item g → (after_pair c m (record { feed = n; line = g })).0 ≡ with_feeds m (set m.feeds n f)

  -- the clocks of the feed changed, and the engine followed
  take_item : (item : Item) (f : Feed) → new.feeds ≡ set old.feeds n f → new.engine.plans ≡ old.engine.plans → new.engine.limit ≡ old.engine.limit
      → (old.engine.stopped ≡ false → new.engine.stopped ≡ false) → (r : Option Rise) → (old.engine.stopped ≡ false → HasRisen old.engine new.engine (set old.feeds n f) r)
      → Leaves item f → TakeMark old new n item r
  take_item item f clocks plans limit running r rise leaves c texts ps g is b =
      let m : Merged = run_behind c texts (length old.feeds) ps in
      let now : (after_pair c m (record { feed = n; line = g })).0 ≡ with_feeds m (set m.feeds n f) = leaves c m g (own_there m b.run) is in
      let clocks_there : set old.feeds n f ≡ set m.feeds n f = ap (λ (fs : List Feed). set fs n f) b.run.feeds in
      let risen : HasRisen old.engine new.engine (set m.feeds n f) r =
      subst (λ (fs : List Feed). HasRisen old.engine new.engine fs r) clocks_there (rise b.run.running) in
      let k = risen_on m old new b.run (set m.feeds n f) (clocks ∙ clocks_there) (running b.run.running) r risen in
      let a = answered_on m old new b.run (set m.feeds n f) (clocks ∙ clocks_there) (running b.run.running) r risen in (
        taken_on c texts ps (record { feed = n; line = g }) old new b plans limit (ap length clocks ∙ length_set old.feeds n f)
            (subst (λ (q : Merged). StandFor q new) (sym now) k),
        subst (λ (q : Merged). AnswersRise (plans_of old.engine.plans) b.run.accepted m q r) (sym now) a,
      )

  module _ (open_now : own.ended ≡ false) where
    -- the engine followed as the clocks of the feed moved on
    ticked : (item : Item) (f : Feed) → new.feeds ≡ set old.feeds n f → (result : Result (Option Rise) Refused) → (IsTrue new.engine.stopped ↔ (result ≡ Err Memory))
        → OnOk result (IsSameEngine old.engine new.engine) → IfOk result (IsRise old new) → Leaves item f → IfOk result (TakeMark old new n item)
    ticked item f clocks (Err e) raised same risen leaves = tt
    ticked item f clocks (Ok r) raised same risen leaves =
        take_item item f clocks same.same_plans same.same_limit (λ _. going new.engine.stopped r raised) r
        (λ _. subst (λ (fs : List Feed). HasRisen old.engine new.engine fs r) clocks risen) leaves

    pub clock_taken : (t : ℕ) → own.last ≤ t → new.feeds ≡ set old.feeds n (clocked t own) → (result : Result (Option Rise) Refused)
        → (IsTrue new.engine.stopped ↔ (result ≡ Err Memory)) → OnOk result (IsSameEngine old.engine new.engine) → IfOk result (IsRise old new)
        → IfOk result (TakeMark old new n (Clock t))
    clock_taken t later clocks result raised same risen =
        ticked (Clock t) (clocked t own) clocks result raised same risen (λ c m g here is. clock_leaves c m n own here open_now t g later is)

    pub end_taken : new.feeds ≡ set old.feeds n (closed own) → (result : Result (Option Rise) Refused)
        → (IsTrue new.engine.stopped ↔ (result ≡ Err Memory)) → OnOk result (IsSameEngine old.engine new.engine) → IfOk result (IsRise old new)
        → IfOk result (TakeMark old new n Finish)
    end_taken clocks result raised same risen =
        ticked Finish (closed own) clocks result raised same risen (λ c m g here is. end_leaves c m n own here open_now g is)

pub delay_taken : (s : FeedsState) (n d : ℕ) → n < length s.feeds → AreFeeds s → (get_or s.feeds n new_feed).ended ≡ false
    → TakeItem s (record s { feeds = set s.feeds n (record (get_or s.feeds n new_feed) { delay = d }) }) n (Delay d)
delay_taken s n d l a still c texts ps g is b =
    let f : Feed = record (get_or s.feeds n new_feed) { delay = d } in
    (take_item s (record s { feeds = set s.feeds n f }) n l (Delay d) f refl refl refl (λ running. running) None
    (λ running. (common_stays s.feeds n f refl ∙ sym (a.at running).horizon, refl))
    (λ c m g here is. delay_leaves c m n (get_or s.feeds n new_feed) here still d g is) c texts ps g is b).0

-- ---- one more entry

module _ (m : Merged) (old new : FeedsState) (k : StandFor m old) (x : Entry Sym) (clocks : new.feeds ≡ old.feeds) (running : new.engine.stopped ≡ false)
    (a : HasAccepted old.engine new.engine) (due : common m.feeds ≤ x.date)
    (stands : (settled : List (Entry Sym)) (waiting : List (Entry Sym)) → StandsFor old.engine settled waiting → StandsFor new.engine settled (put_in_order x waiting)) where
  abbrev parted_at : ℕ
  parted_at = common m.feeds

  below : (z : Entry Sym) → IsIn z k.accepted → z.arrival < length m.accepted
  below z i =
      let all : List (Entry Sym) = dated_before parted_at k.accepted ++ in_key_order (since parted_at k.accepted) in
      let l = (k.stands.numbered.numbers z.arrival).1 (in_map (λ (e : Entry Sym). e.arrival) all z ((both_parts parted_at k.accepted).back z i)) in
      subst (λ (n : ℕ). z.arrival < n) k.count l

  distinct_now : x.arrival ≡ length m.accepted → AreDistinct (k.accepted ++ x ∷ [])
  distinct_now last = ordered_append (λ d e. d.arrival ≢ e.arrival) k.accepted (x ∷ []) k.distinct (tt, tt) (λ y z i j. elim j [
    | inl q ↦ (λ e. let b = below y i in let c = ap (λ (w : Entry Sym). w.arrival) q in absurd (omega (arith, b, c, e, last)))
    | inr n ↦ absurd n
  ])

  -- the entry, by the texts that are then known
  one_more : (ts : List (List ℕ)) → IsEntryOf (HasText (with_texts m.texts ts)) x → x.arrival ≡ length m.accepted
      → StandFor (record m { texts = with_texts m.texts ts; accepted = m.accepted ++ renamed_entry (text_in (with_texts m.texts ts)) x ∷ [] }) new
  one_more ts known last =
      let texts : List (List ℕ) = with_texts m.texts ts in
      let y : Entry (List ℕ) = renamed_entry (text_in texts) x in
      let same : map (renamed_entry (text_in m.texts)) k.accepted ≡ map (renamed_entry (text_in texts)) k.accepted =
      same_entries (text_in m.texts) (text_in texts) (HasText m.texts) (λ s h. sym (kept_all ts m.texts s.0 h).1) k.accepted k.known in
      record {
        feeds = clocks ∙ k.feeds;
        running = running;
        horizon = a.same_horizon ∙ k.horizon;
        accepted = k.accepted ++ x ∷ [];
        distinct = distinct_now last;
        known = all_append (IsEntryOf (HasText texts)) k.accepted (x ∷ [])
            (entries_more (HasText m.texts) (HasText texts) (λ s h. (kept_all ts m.texts s.0 h).0) k.accepted k.known) (known, tt);
        seen = map-append (renamed_entry (text_in texts)) k.accepted (x ∷ []) ∙ ap (λ (us : List (Entry (List ℕ))). us ++ y ∷ []) (sym same ∙ k.seen);
        count = a.one_more ∙ ap (λ (n : ℕ). n + 1) k.count ∙ sym (length-append m.accepted (y ∷ []));
        marked = a.same_marked ∙ k.marked;
        stands =
            subst (λ (us : List (Entry Sym)). StandsFor new.engine us (in_key_order (since parted_at (k.accepted ++ x ∷ [])))) (sym (before_last parted_at k.accepted x due))
            (subst (StandsFor new.engine (dated_before parted_at k.accepted)) (sym (since_last parted_at k.accepted x due))
            (stands (dated_before parted_at k.accepted) (in_key_order (since parted_at k.accepted)) k.stands));
      }

entry_added : (old new : FeedsState) (n : ℕ) (x : Entry Sym) → n < length old.feeds → new.feeds ≡ old.feeds → new.engine.stopped ≡ false
    → HasAccepted old.engine new.engine → common old.feeds ≤ x.date
    → ((settled : List (Entry Sym)) (waiting : List (Entry Sym)) → StandsFor old.engine settled waiting → StandsFor new.engine settled (put_in_order x waiting))
    → TakeEntry old new n x
entry_added old new n x l clocks running a due stands c texts ps g is b =
    let m : Merged = run_behind c texts (length old.feeds) ps in
    let now : Merged = (after_pair c m (record { feed = n; line = g })).0 in
    let one : IsOneMore m now (renamed_entry (text_in now.texts) x) =
    entry_leaves c m n (get_or old.feeds n new_feed) (own_there old new n l m b.run) g (renamed_entry (text_in now.texts) x) is.accepted in
    let ts : List (List ℕ) = texts_of one.event in
    let same : now.texts ≡ with_texts m.texts ts = ap (λ (q : Merged). q.texts) one.is in
    let more : Merged = record m { texts = with_texts m.texts ts; accepted = m.accepted ++ renamed_entry (text_in (with_texts m.texts ts)) x ∷ [] } in
    let there : now ≡ more = one.is ∙ (λ i. record m { texts = with_texts m.texts ts; accepted = m.accepted ++ renamed_entry (text_in (same i)) x ∷ [] }) in
    let due_there : common m.feeds ≤ x.date = subst (λ (fs : List Feed). common fs ≤ x.date) b.run.feeds due in
    let k : StandFor more new = one_more m old new b.run x clocks running a due_there stands ts
    (subst (λ (us : List (List ℕ)). IsEntryOf (HasText us) x) same is.known) (ap (λ (e : Entry (List ℕ)). e.arrival) one.entry) in
    taken_on c texts ps (record { feed = n; line = g }) old new b a.same_plans a.same_limit (ap length clocks)
    (subst (λ (q : Merged). StandFor q new) (sym there) k)

still_going : (old new : Bool) → old ≡ false → (IsTrue new ↔ (IsTrue old ⊎ (◌≡◌ {A = Result (Unit {0}) Refused} (Ok tt) (Err Memory)))) → new ≡ false
still_going old false e h = refl
still_going old true e h = elim (h.0 refl) [ inl k ↦ absurd (true≢false (sym k ∙ e)) | inr k ↦ absurd (cc) ]

pub entry_taken : (old new : FeedsState) (n : ℕ) (x : Entry Sym) → n < length old.feeds → new.feeds ≡ old.feeds → (result : Result (Unit {0}) Refused)
    → (IsTrue new.engine.stopped ↔ (IsTrue old.engine.stopped ⊎ (result ≡ Err Memory))) → OnOk result (HasAccepted old.engine new.engine) → (get_or old.feeds n new_feed).horizon ≤ x.date
    → OnOk result ((settled : List (Entry Sym)) (waiting : List (Entry Sym)) → StandsFor old.engine settled waiting → StandsFor new.engine settled (put_in_order x waiting))
    → OnOk result (TakeEntry old new n x)
entry_taken old new n x l clocks (Err e) raised a due stands = tt
entry_taken old new n x l clocks (Ok u) raised a due stands =
    λ c texts ps g is b.
    let low = common_low old.feeds n l in
    entry_added old new n x l clocks (still_going old.engine.stopped new.engine.stopped b.run.running raised) a (omega (arith, low, due)) stands c texts ps g is b

-- ---- the start

pub stands_new : (s : FeedsState) (n : ℕ) → s.feeds ≡ replicate n new_feed → s.engine.stopped ≡ false → s.engine.horizon ≡ common s.feeds → s.engine.accepted ≡ 0
    → s.engine.marked ≡ 0 → StandsFor s.engine [] [] → StandAtStart s
stands_new s n feeds running horizon accepted marked stands c texts names limit =
    let same : s.feeds ≡ replicate (length s.feeds) new_feed = feeds ∙ ap (λ (k : ℕ). replicate k new_feed) (sym (ap length feeds ∙ length_new n)) in
    record {
      names = names;
      limit = limit;
      run = record {
        feeds = same;
        running = running;
        horizon = horizon ∙ ap common same;
        accepted = [];
        distinct = tt;
        known = tt;
        seen = refl;
        count = accepted;
        marked = marked;
        stands = stands;
      };
    }
