-- What an event of a feed brings.
use Rattle.std.proofs.Common.{◌≡◌, ◌≢◌, ◌∙◌, ap, sym, refl, subst, ℕ, ◌+◌, ◌<◌, ◌≤◌, true, false, cond, List, [], ◌∷◌, ◌++◌, length, get_or, map, nat_lt, nat_le}
use Rattle.std.proofs.Common.{arith, append-nil, lt-ltb, length-append, Ok, Err}
use Rattle.std.specs.Prelude.{◌||◌}
use Rattle.std.proofs.lemmas.Bool.{le-ltb}
use Rattle.crs_base.specs.declared.entry.Entry.{Entry as CodeEntry}
use Rattle.crs_base.specs.Entry.{Entry}
use Rattle.crs_base.specs.Seen.{entry_of}
use Rattle.crs_base.specs.Symbols.{Table, AreDistinct, with_texts}
use Rattle.crs_model.specs.declared.plan.Plans.{Plans}
use Rattle.crs_model.specs.Renaming.{text_in, renamed_entry, IsEntryOf}
use Rattle.crs_engine.specs.Engines.{HasAccepted}
use Rattle.crs_engine.specs.EngineRefusals.{answer_by}
use Rattle.crs_engine.specs.declared.refused.Refused.TheVariants.{Late}
use Rattle.crs_log.specs.Items.{Event, Happens}
use Rattle.crs_log.specs.Known.{Verdict, Named, known_of, new_texts, texts_of, entry_of_event}
use Rattle.crs_log.specs.Reading.{Given}
use Rattle.crs_log.specs.Run as run
use Rattle.crs_log.specs.Run.{Setting, State, Outcome, Refused, Accepted, after_line, after_ordered, after_verdict, after_named, with_entry}
use Rattle.crs_log.specs.SeenNames.{IsEntryIn, entry_seen, name_seen}
use Rattle.crs_feeds.specs.declared.feed.Feed.{Feed}
use Rattle.crs_feeds.specs.Merged.{Merged, Pair, new_feed, seen_by, with_feeds, with_state, after_pair, has_risen}
use Rattle.crs_feeds.specs.Standing.{HasText, IsItemOf, IsAcceptedAs, TakeEntry}
use Rattle.crs_feeds.specs.States.{FeedsState, test_refusal}
use Rattle.crs_feeds.proofs.Stepping.{with_same_feeds}
use Rattle.crs_rounds.specs.declared.merged.MergedSession.{MergedSession}
use Rattle.crs_rounds.specs.MergedSession.{StandsBehind, BringsPair, feeds_of, run_at}
use Rattle.crs_rounds.specs.PairTexts.{IsPairText}
use Rattle.crs_frames.specs.TableTexts.{HasModels}
use Rattle.crs_frames.specs.Frames.{Frame, log_setting, is_refused}
use Rattle.crs_frames.proofs.Dates.{late_by, fine_by}
use Rattle.crs_rounds.proofs.FeedOrder.{pair}
use Rattle.crs_frames.proofs.Grown.{models_grown, texts_grow}
use Rattle.crs_base.proofs.DistinctTexts.{with_apart}
use Rattle.crs_rounds.proofs.MergedSteps.{line_is, no_rise, or_false, silent, ordered, run_more, same_feeds}

-- what is known of an event's name
pub known_is : (f : Frame) (x : MergedSession) → f.models.names ≡ map (name_seen x.symbols.texts) x.feeds.engine.plans.names → (e : Event) (plans : Plans) (v : Verdict)
    → plans ≡ x.feeds.engine.plans → known_of (map (name_seen x.symbols.texts) plans.names) e ≡ v → known_of f.models.names e ≡ v
known_is f x names e plans v same says =
    ap (λ ns. known_of ns e) names ∙ ap (λ (p : Plans). known_of (map (name_seen x.symbols.texts) p.names) e) (sym same) ∙ says

pub named_is : (f : Frame) (x : MergedSession) → f.models.names ≡ map (name_seen x.symbols.texts) x.feeds.engine.plans.names → (e : Event) (place : ℕ)
    → known_of (map (name_seen x.symbols.texts) x.feeds.engine.plans.names) e ≡ Named place → known_of f.models.names e ≡ Named place
named_is f x names e place says = ap (λ ns. known_of ns e) names ∙ says

module _ (f : Frame) (x : MergedSession) (ps : List Pair) (r : StandsBehind f x ps) (n : ℕ) (l : n < feeds_of x)
    (going : (get_or x.feeds.feeds n new_feed).ended ≡ false) (e : Event) (g : Given) (is : IsItemOf (Happens e) g) where
  abbrev c : Setting
  c = log_setting f

  abbrev m : Merged
  m = run_at f x ps

  abbrev own : Feed
  own = get_or x.feeds.feeds n new_feed

  abbrev s : State
  s = seen_by m own

  -- an event that is late by the horizon of its feed
  pub late_is : (date horizon : ℕ) → Err (Late date horizon) ≡ answer_by (test_refusal x.feeds own e.date)
      → after_line c s g ≡ (s, Refused (run.Late date horizon))
  late_is date horizon h =
      let k = late_by x.feeds.engine.stopped (nat_lt e.date own.horizon) date own.horizon e.date horizon h in
      line_is c s (Happens e) g is going
      ∙ (λ i. cond (k.0 i) (s, Refused (run.Late (sym k.1 i) (sym k.2 i))) (after_verdict c s e (known_of f.models.names e)))

  pub not_late : Ok tt ≡ answer_by (test_refusal x.feeds own e.date) → nat_lt e.date own.horizon ≡ false
  not_late h = fine_by x.feeds.engine.stopped (nat_lt e.date own.horizon) own.horizon e.date h

  -- one that isn't becomes what is known of its name
  pub verdict_is : (v : Verdict) → nat_lt e.date own.horizon ≡ false → known_of f.models.names e ≡ v → after_line c s g ≡ after_verdict c s e v
  verdict_is v fine known =
      line_is c s (Happens e) g is going ∙ (λ i. cond (fine i) (s, Refused (run.Late e.date own.horizon)) (after_verdict c s e (known i)))

  -- where as many entries were accepted as may be
  pub full_is : x.feeds.engine.accepted ≡ x.feeds.engine.limit → after_named c s e ≡ (s, Refused (run.Full x.entries))
  full_is full =
      let no : nat_lt (length m.accepted) f.entries ≡ false =
      le-ltb (length m.accepted) f.entries (let a = r.stand.run.count in let b = r.stand.limit in omega (arith, a, b, full)) in
      let named = cond (nat_le (length m.texts + length (new_texts m.texts (texts_of e))) f.symbols)
      (with_entry s (entry_of_event (length m.accepted) e) e, Accepted (entry_of_event (length m.accepted) e))
      (s, Refused (run.Values f.symbols)) in
      λ i. cond (no i) named (s, Refused (run.Full (sym r.most_here i)))

  module _ (not_full : x.feeds.engine.accepted ≢ x.feeds.engine.limit) where
    has_room : length m.accepted < f.entries
    has_room =
        let d : length m.accepted ≢ f.entries = (λ q. not_full (r.stand.run.count ∙ q ∙ r.stand.limit)) in
        omega (arith, r.few, d)

    room_is : nat_lt (length m.accepted) f.entries ≡ true
    room_is = lt-ltb (length m.accepted) f.entries has_room

    new_is : length m.texts + length (new_texts m.texts (texts_of e)) ≡ length x.symbols.texts + length (new_texts x.symbols.texts (texts_of e))
    new_is = ap (λ (t : List (List ℕ)). length t + length (new_texts t (texts_of e))) r.texts

    abbrev entry : Entry (List ℕ)
    entry = entry_of_event (length m.accepted) e

    -- its symbols don't fit
    pub values_is : (limit : ℕ) → limit ≡ x.symbols.limit → x.symbols.limit < length x.symbols.texts + length (new_texts x.symbols.texts (texts_of e))
        → after_named c s e ≡ (s, Refused (run.Values limit))
    values_is limit same over =
        let big : nat_le (length m.texts + length (new_texts m.texts (texts_of e))) f.symbols ≡ false = grind (arith, new_is, r.models.limit) in
        let lim : f.symbols ≡ limit = sym r.models.limit ∙ sym same in
        λ i. cond (room_is i) (cond (big i) (with_entry s entry e, Accepted entry) (s, Refused (run.Values (lim i)))) (s, Refused (run.Full f.entries))

    -- it is accepted
    module _ (place : ℕ) (fine : nat_lt e.date own.horizon ≡ false) (named : known_of f.models.names e ≡ Named place) (fs : FeedsState) (table : Table) (en : CodeEntry)
        (texts : table.texts ≡ with_texts x.symbols.texts (texts_of e)) (limit : table.limit ≡ x.symbols.limit)
        (fits : length x.symbols.texts + length (new_texts x.symbols.texts (texts_of e)) ≤ x.symbols.limit)
        (seen : entry_seen table.texts en ≡ entry_of_event x.feeds.engine.accepted e) (known : IsEntryIn table.texts en)
        (clocks : fs.feeds ≡ x.feeds.feeds) (a : HasAccepted x.feeds.engine fs.engine) (take : TakeEntry x.feeds fs n (entry_of en)) where
      abbrev more : Merged
      more = record m { texts = with_texts m.texts (texts_of e); accepted = m.accepted ++ entry ∷ [] }

      becomes : after_named c s e ≡ (with_entry s entry e, Accepted entry)
      becomes =
          let small : nat_le (length m.texts + length (new_texts m.texts (texts_of e))) f.symbols ≡ true = grind (arith, new_is, r.models.limit) in
          λ i. cond (room_is i) (cond (small i) (with_entry s entry e, Accepted entry) (s, Refused (run.Values f.symbols))) (s, Refused (run.Full f.entries))

      ordered_is : after_ordered c s (Happens e) ≡ (with_entry s entry e, Accepted entry)
      ordered_is = (λ i. cond (fine i) (s, Refused (run.Late e.date own.horizon)) (after_verdict c s e (named i))) ∙ becomes

      kept : with_state m n (with_entry s entry e) ≡ more
      kept = ap (with_feeds more) (same_feeds f x ps r n l) ∙ with_same_feeds more

      all : after_pair c m (pair n g) ≡ (more, Accepted entry)
      all = ordered f x ps r n l going (Happens e) g is ∙ ap (λ (b : State × Outcome). (with_state m n b.0, b.1)) ordered_is ∙ ap (λ (q : Merged). (q, Accepted entry)) kept

      texts_then : (after_pair c m (pair n g)).0.texts ≡ table.texts
      texts_then = ap (λ (b : Merged × Outcome). b.0.texts) all ∙ ap (λ (t : List (List ℕ)). with_texts t (texts_of e)) r.texts ∙ sym texts

      entry_is : entry ≡ renamed_entry (text_in (after_pair c m (pair n g)).0.texts) (entry_of en)
      entry_is =
          ap (λ k. entry_of_event k e) (sym r.stand.run.count) ∙ sym seen ∙ ap (λ (t : List (List ℕ)). renamed_entry (text_in t) (entry_of en)) (sym texts_then)

      accepted_as : IsAcceptedAs c m n g (entry_of en)
      accepted_as = record {
        known = subst (λ (t : List (List ℕ)). IsEntryOf (HasText t) (entry_of en)) (sym texts_then) known;
        accepted = ap (λ (b : Merged × Outcome). b.1) all ∙ ap (λ (y : Entry (List ℕ)). Accepted y) entry_is;
      }

      abbrev next : MergedSession
      next = record x { feeds = fs; symbols = table }

      next_is : run_at f next (ps ++ pair n g ∷ []) ≡ more
      next_is =
          ap (λ (fs : List Feed). run_at f (record x { feeds = record x.feeds { feeds = fs } }) (ps ++ pair n g ∷ [])) clocks
          ∙ run_more f x ps r n l g ∙ ap (λ (b : Merged × Outcome). b.0) all

      models_then : HasModels f fs.engine.plans table
      models_then =
          let k = texts_grow x.symbols.texts (texts_of e) in
          let now : table.texts ≡ x.symbols.texts ++ k.0 = texts ∙ k.1 in
          let models : HasModels f x.feeds.engine.plans (record { texts = x.symbols.texts ++ k.0; limit = x.symbols.limit }) =
          models_grown x.symbols.texts k.0 f x.feeds.engine.plans x.symbols.limit r.models (subst AreDistinct k.1 (with_apart x.symbols.texts (texts_of e) r.models.distinct)) in
          let table_is : record { texts = x.symbols.texts ++ k.0; limit = x.symbols.limit } ≡ table = (λ i. record { texts = sym now i; limit = sym limit i }) in
          subst (λ (p : Plans). HasModels f p table) (sym a.same_plans) (subst (HasModels f x.feeds.engine.plans) table_is models)

      next_behind : StandsBehind f next (ps ++ pair n g ∷ [])
      next_behind = record {
        models = models_then;
        stand = take c f.texts ps g accepted_as r.stand;
        texts = ap (λ (q : Merged). q.texts) next_is ∙ ap (λ (t : List (List ℕ)). with_texts t (texts_of e)) r.texts ∙ sym texts;
        few = subst (λ (q : Merged). length q.accepted ≤ f.entries) (sym next_is) (omega (arith, has_room, length-append m.accepted (entry ∷ [])));
        most_here = r.most_here;
      }

      pub accept_brings : (out : List ℕ) → BringsPair f x next ps (pair n g) out out
      accept_brings out = record {
        state = next_behind;
        count = ap length clocks;
        text = [];
        is_text = subst (λ (b : Merged × Outcome). IsPairText f.models.chronicles (pair n g) m b []) (sym all)
            ([], silent f.models.chronicles (has_risen m.feeds m.feeds) m more (no_rise m.feeds), refl);
        written = sym (append-nil out);
        refused = or_false x.refused ∙ ap (λ (b : Merged × Outcome). x.refused || is_refused b.1) (sym all);
      }
