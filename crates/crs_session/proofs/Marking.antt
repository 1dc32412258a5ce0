-- What an accepted `clock` and an accepted `end` bring.
use Rattle.std.proofs.Common.{◌≡◌, ◌<◌, ◌≤◌, ◌^◌, ◌||◌, ℕ, suc, max, Bool, true, false, cond, List, [], ◌∷◌, ◌++◌, length, nat_lt, refl, sym, ap, subst, ◌∙◌, arith, Ok, Err, Result, true≢false, append_assoc}
use Rattle.std.specs.Prelude.{Some, None, IsSome, OnOk, flat_map, if◌then◌else◌}
use Rattle.crs_base.specs.Symbols.{AreDistinct}
use Rattle.crs_model.specs.declared.plan.Plans.{Plans}
use Rattle.crs_model.specs.declared.recognition.Mark.{Mark}
use Rattle.crs_model.specs.declared.recognition.Mark.TheVariants.{Clock as AtClock, Finish as AtEnd}
use Rattle.crs_engine.specs.Engines.{plans_of}
use Rattle.crs_engine.specs.EngineRefusals.{IsRefusedAs}
use Rattle.crs_engine.specs.declared.refused.Refused.TheVariants.{Stopped, Back}
use Rattle.crs_log.specs.Items.{Item, Clock, Finish}
use Rattle.crs_log.specs.Run as run
use Rattle.crs_log.specs.Run.{Outcome, Refused, Marked, horizon_at, end_date}
use Rattle.crs_report.specs.OutputLines.{refusal_line}
use Rattle.crs_layers.specs.Halts.{clock_refusal}
use Rattle.crs_layers.specs.LayerStates.{LayersState, kept_in}
use Rattle.crs_layers.specs.Runs.{State, Effect, LogEntry, IsItemEffect, IsAfter, views_of, after_ordered}
use Rattle.crs_layers.specs.Strata.{Stratum, Placed, IsMarkFrom}
use Rattle.crs_layers.specs.Standing.{StandFor}
use Rattle.crs_layers.specs.Takes.{GoOnBy, TakeMark, IsMarkedAs}
use Rattle.crs_layers.specs.declared.marked.Marked.{Marked as Told}
use Rattle.crs_session.specs.declared.session.Session.{Session}
use Rattle.crs_session.specs.Marked.{with_marked, counts_behind}
use Rattle.crs_session.specs.Session.{Represents, Brings, BringsAll, full_in}
use Rattle.crs_frames.specs.TableTexts.{HasModels, ArePrintable, line_in}
use Rattle.crs_session.specs.Tallies.{Tally, AllLive, Counted, capped, effect_tally, with_mark, with_flood, with_refused}
use Rattle.crs_frames.specs.Frames.{Frame, log_setting, fault_of, answer_line, is_refused}
use Rattle.crs_session.specs.Texts.{setting_of, line_text, flood_text, effect_text}
use Rattle.crs_session.specs.Written.{Written, with_text}
use Rattle.crs_session.proofs.Accepting.{refuse_brings}
use Rattle.crs_session.proofs.Counting.{counted_marked, peak_after}
use Rattle.crs_session.proofs.Living.{held_in, held_live, kept_is}
use Rattle.crs_session.proofs.Told.{lines_are, notices_are, all_filled, all_printable, as_many}
use Rattle.crs_frames.proofs.Clocks.{fine_by, same_by}

-- a clock that was taken isn't before the last
pub clock_fine : {A : Type 0} (y : LayersState) (t : ℕ) (answer : A) → y.stopped ≡ false → IsRefusedAs (clock_refusal y t) (Ok answer) → nat_lt t y.last ≡ false
clock_fine y t answer running h = fine_by y.stopped (nat_lt t y.last) Stopped (Back t y.last) answer running h

-- a clock that is answered by `back` is before the last
back_by : (stopped early : Bool) (t last a b : ℕ) → stopped ≡ false
    → IsRefusedAs {A = Told} (if stopped then Some Stopped else (if early then Some (Back t last) else None)) (Err (Back a b))
    → (early ≡ true) × (a ≡ t) × (b ≡ last)
back_by true early t last a b e h = absurd (true≢false e)
back_by false true t last a b e h = (refl, cc, cc)
back_by false false t last a b e h = let k = h (Back a b) refl in absurd cc

-- ---- the state behind a mark

clock_by : (s : run.State) (t : ℕ) (early : Bool) (mark : Mark) (next : run.State) (o : Outcome) → o ≡ Marked mark
    → ◌≡◌ {A = run.State × Outcome} (cond early (s, Refused (run.Back t s.last)) (record s { last = t; horizon = horizon_at s.delay s.horizon t; marked = length s.accepted }, Marked (AtClock t))) (next, o)
    → next ≡ record s { last = t; horizon = horizon_at s.delay s.horizon t; marked = length s.accepted }
clock_by s t true mark next o m e = let q : Refused (run.Back t s.last) ≡ Marked mark = ap (λ (p : run.State × Outcome). p.1) e ∙ m in absurd (cc)
clock_by s t false mark next o m e = sym (ap (λ (p : run.State × Outcome). p.0) e)

mark_long : (cs : List (Placed (List ℕ))) (limit : ℕ) (g h : ℕ → ℕ) (j : ℕ) (given : List LogEntry) (olds news : List (Stratum (List ℕ))) (all : List (List LogEntry))
    → IsMarkFrom (λ x. x) cs limit g h j given olds news all → length news ≡ length olds
mark_long cs limit g h j given [] news all m = ap length m.0
mark_long cs limit g h j given (old ∷ olds) news all m = ap length m.3 ∙ ap suc (mark_long cs limit g h (suc j) (given ++ m.2) olds m.0 m.1 m.6)

-- what a mark's next state has in common with the one before it
pub record IsNext (s t : State) : Type 0 where
  texts : t.log.texts ≡ s.log.texts
  accepted : t.log.accepted ≡ s.log.accepted
  reached : t.log.horizon ≤ end_date
  closed : t.log.ended ≡ true → (t.log.horizon ≡ end_date) × (t.log.last ≡ end_date)

module _ (f : Frame) (x : Session) (s : State) (r : Represents f x s) where
  clock_next : (t n : ℕ) (mark : Mark) (e : Effect) (next : State) → t < 2 ^ 40 → s.log.ended ≡ false → e.outcome ≡ Marked mark → IsItemEffect (setting_of f) s n (Clock t) e next
      → IsNext s next × (next.log.ended ≡ s.log.ended)
  clock_next t n mark e next small going m is =
      let q = clock_by s.log t (nat_lt t s.log.last) mark next.log e.outcome m is.log in
      let reached = r.reached in
      let low : horizon_at s.log.delay s.log.horizon t ≤ end_date = omega (arith, reached, small) in (
        record {
          texts = ap (λ (z : run.State). z.texts) q;
          accepted = ap (λ (z : run.State). z.accepted) q;
          reached = subst (λ (k : ℕ). k ≤ end_date) (sym (ap (λ (z : run.State). z.horizon) q)) low;
          closed = λ c. absurd (true≢false (sym c ∙ ap (λ (z : run.State). z.ended) q ∙ going));
        },
        ap (λ (z : run.State). z.ended) q,
      )

  end_next : (n : ℕ) (e : Effect) (next : State) → IsItemEffect (setting_of f) s n Finish e next → IsNext s next × (next.log.ended ≡ true)
  end_next n e next is =
      let q : next.log ≡ record s.log { last = end_date; horizon = end_date; ended = true; marked = length s.log.accepted } = sym (ap (λ (p : run.State × Outcome). p.0) is.log) in (
        record {
          texts = ap (λ (z : run.State). z.texts) q;
          accepted = ap (λ (z : run.State). z.accepted) q;
          reached = let h = ap (λ (z : run.State). z.horizon) q in omega (arith, h);
          closed = λ c. (ap (λ (z : run.State). z.horizon) q, ap (λ (z : run.State). z.last) q);
        },
        ap (λ (z : run.State). z.ended) q,
      )

  -- a mark brings its recognitions, and what is held is counted
  module _ (new : LayersState) (m : Told) (mark : Mark) (item : Item) (n : ℕ) (here : Bool) (goes : GoOnBy 0 x.layers new) (e : Effect) (next : State)
      (is : IsItemEffect (setting_of f) s n item e next) (made : IsMarkedAs x.symbols.texts (plans_of x.layers.plans) mark m.list m.flood e) (stand : StandFor (setting_of f) next new)
      (to : IsNext s next) (ended : next.log.ended ≡ here) where
    abbrev behind : Session
    behind = record x { layers = new; ended = here }

    models_then : HasModels f new.plans x.symbols
    models_then = subst (λ (p : Plans). HasModels f p x.symbols) (sym goes.same_plans) r.models

    distinct_then : AreDistinct next.log.texts
    distinct_then = subst AreDistinct (sym (to.texts ∙ r.texts)) r.models.distinct

    strata_then : length next.strata ≡ length s.strata
    strata_then =
        let marked : IsAfter (setting_of f) s next.log (Marked mark) next.strata e.given = subst (λ (o : Outcome). IsAfter (setting_of f) s next.log o next.strata e.given) made.outcome is.strata in
        mark_long f.placed f.entries _ _ 0 [] s.strata next.strata e.given marked

    live_then : AllLive new.focus f.placed (views_of (setting_of f) next) (held_in new.layers)
    live_then = held_live f new next stand distinct_then models_then.proper (strata_then ∙ r.strata)

    kept : kept_in new ≡ capped (held_in new.layers)
    kept = kept_is new.layers

    abbrev pub counts_then : Rattle.crs_session.specs.declared.session.Counts.Counts
    counts_then = counts_behind behind m

    peak_is : counts_then.peak ≡ max x.counts.peak (capped (held_in new.layers))
    peak_is = by m.flood ∙ ap (max x.counts.peak) kept
      where
        by : (b : Bool) → (with_flood b (with_mark x.counts (length m.list) (kept_in new))).peak ≡ max x.counts.peak (kept_in new)
        by true = refl
        by false = refl

    state : Represents f (record behind { counts = counts_then }) next
    state = record {
      models = models_then;
      stand = stand;
      texts = to.texts ∙ r.texts;
      strata = strata_then ∙ r.strata;
      count = let a = r.count in let b = goes.accepted in let c = ap length to.accepted in omega (arith, a, b, c);
      few = let a = r.few in let c = ap length to.accepted in omega (arith, a, c);
      most_here = r.most_here;
      reached = to.reached;
      closed = to.closed;
      cite = r.cite;
      ended = ended;
      peaked = (held_in new.layers, live_then, subst (λ (k : ℕ). capped (held_in new.layers) ≤ k) (sym peak_is) (peak_after x.counts.peak (held_in new.layers)));
    }

    text_is : effect_text f.cite f.entries e ≡ flat_map (answer_line f.cite mark) e.answers ++ flood_text f.entries n m.flood
    text_is = λ i. line_text f.cite (is.number i) (made.outcome i) e.answers ++ flood_text f.entries (is.number i) (made.flooded i)

    told : flat_map (line_in x.cite new.plans x.symbols.texts) m.list ≡ flat_map (answer_line f.cite mark) e.answers
    told =
        (λ i. flat_map (line_in (r.cite i) (goes.same_plans i) x.symbols.texts) m.list)
        ∙ lines_are x.symbols.texts x.layers.plans mark f.cite m.list e.answers made.told

    tally_is : ◌≡◌ {A = Tally} (record { refused = cond m.flood 1 0; recognitions = length m.list; peak = held_in new.layers }) (effect_tally e (held_in new.layers))
    tally_is = λ i. record {
      refused = cond ((sym (λ j. is_refused (made.outcome j) || made.flooded j)) i) 1 0;
      recognitions = as_many x.symbols.texts x.layers.plans mark m.list e.answers made.told i;
      peak = held_in new.layers;
    }

    counted : Counted x.counts counts_then (effect_tally e (held_in new.layers))
    counted =
        subst (Counted x.counts counts_then) tally_is
        (subst (λ (k : ℕ). Counted x.counts (with_flood m.flood (with_mark x.counts (length m.list) k)) (record { refused = cond m.flood 1 0; recognitions = length m.list; peak = held_in new.layers })) (sym kept)
        (counted_marked x.counts (length m.list) (held_in new.layers) m.flood))

    pub mark_brings : (out more : Written) → more ≡ with_marked behind n m out
        → Brings f x.layers.focus x.counts (record behind { counts = counts_then }) n s (after_ordered (log_setting f) (full_in f s) s.log item) out more
    mark_brings out more written = record {
      effect = e;
      next = next;
      is = is;
      state = state;
      same_focus = goes.same_focus;
      written =
          ap (λ (w : Written). w.text) written
          ∙ append_assoc out.text (flat_map (line_in x.cite new.plans x.symbols.texts) m.list) (flood_text x.entries n m.flood)
          ∙ (λ i. out.text ++ (told i ++ flood_text (r.most_here i) n m.flood))
          ∙ ap (λ (t : List ℕ). out.text ++ t) (sym text_is);
      found = m.list;
      notices = notices_are x.symbols.texts x.layers.plans mark m.list e.answers made.told;
      filled = all_filled x.symbols.texts x.layers.plans mark m.list e.answers r.models.proper made.told;
      added = ap (λ (w : Written). w.found) written;
      live = held_in new.layers;
      all_live = subst (λ (b : Bool). AllLive b f.placed e.now (held_in new.layers)) goes.same_focus (subst (λ v. AllLive new.focus f.placed v (held_in new.layers)) (sym is.now) live_then);
      counted = counted;
    }

    pub printable : ArePrintable new.plans x.symbols.texts m.list
    printable =
        subst (λ (p : Plans). ArePrintable p x.symbols.texts m.list) (sym goes.same_plans)
        (all_printable x.symbols.texts x.layers.plans mark m.list e.answers r.models.proper r.models.chronicles_in made.told)

  module _ (going : s.log.ended ≡ false) (new : LayersState) (m : Told) (n : ℕ) (goes : GoOnBy 0 x.layers new) where
    -- a clock brings its mark
    module _ (t : ℕ) (small : t < 2 ^ 40) (takes : TakeMark x.symbols.texts (Clock t) (AtClock t) x.layers new m.list m.flood) where
      pub clock_brings : (out more : Written) → more ≡ with_marked (record x { layers = new }) n m out
          → Brings f x.layers.focus x.counts (record x { layers = new; counts = counts_behind (record x { layers = new }) m }) n s (after_ordered (log_setting f) (full_in f s) s.log (Clock t)) out more
      clock_brings out more written =
          let k = takes (setting_of f) s n r.stand r.texts going in
          let to = clock_next t n (AtClock t) k.0 k.1 small going k.3.outcome k.2 in
          mark_brings new m (AtClock t) (Clock t) n x.ended goes k.0 k.1 k.2 k.3 k.4 to.0 (to.1 ∙ r.ended) out more written

      pub clock_printable : ArePrintable new.plans x.symbols.texts m.list
      clock_printable =
          let k = takes (setting_of f) s n r.stand r.texts going in
          let to = clock_next t n (AtClock t) k.0 k.1 small going k.3.outcome k.2 in
          printable new m (AtClock t) (Clock t) n x.ended goes k.0 k.1 k.2 k.3 k.4 to.0 (to.1 ∙ r.ended)

    -- an end brings its mark
    module _ (takes : TakeMark x.symbols.texts Finish AtEnd x.layers new m.list m.flood) where
      pub end_brings : (out more : Written) → more ≡ with_marked (record x { layers = new; ended = true }) n m out
          → Brings f x.layers.focus x.counts (record x { layers = new; ended = true; counts = counts_behind (record x { layers = new; ended = true }) m }) n s (after_ordered (log_setting f) (full_in f s) s.log Finish) out more
      end_brings out more written =
          let k = takes (setting_of f) s n r.stand r.texts going in
          let to = end_next n k.0 k.1 k.2 in
          mark_brings new m AtEnd Finish n true goes k.0 k.1 k.2 k.3 k.4 to.0 to.1 out more written

      pub end_printable : ArePrintable new.plans x.symbols.texts m.list
      end_printable =
          let k = takes (setting_of f) s n r.stand r.texts going in
          let to = end_next n k.0 k.1 k.2 in
          printable new m AtEnd Finish n true goes k.0 k.1 k.2 k.3 k.4 to.0 to.1

-- a clock before the last is refused
pub back_brings : {A E : Type 0} (result : Result A E) (x : Session) (ls : LayersState) (y : Session) (t n a b : ℕ) (out more : Written)
    → x.layers.stopped ≡ false → IsRefusedAs {A = Told} (clock_refusal x.layers t) (Err (Back a b))
    → (IsSome (clock_refusal x.layers t) → ls ≡ x.layers)
    → OnOk result (more ≡ with_text out (refusal_line n (fault_of (run.Back a b))))
    → OnOk result (y ≡ record x { layers = ls; counts = with_refused x.counts })
    → OnOk result (BringsAll x y n (λ f s. after_ordered (log_setting f) (full_in f s) s.log (Clock t)) out more)
back_brings result x ls y t n a b out more running refused same written counted =
    let k = back_by x.layers.stopped (nat_lt t x.layers.last) t x.layers.last a b running refused in
    let stays : ls ≡ x.layers = same_by x.layers.stopped (nat_lt t x.layers.last) (Back t x.layers.last) (ls ≡ x.layers) k.0 same in
    let noted : OnOk result (y ≡ record x { counts = with_refused x.counts }) =
    subst (λ (z : LayersState). OnOk result (y ≡ record x { layers = z; counts = with_refused x.counts })) stays counted in
    refuse_brings result x y n (run.Back a b) (λ f s. after_ordered (log_setting f) (full_in f s) s.log (Clock t)) out more written noted
    (λ f s r.
    let is : nat_lt t s.log.last ≡ true = ap (nat_lt t) r.stand.last ∙ k.0 in
    λ i. cond (is i) (s.log, Refused (run.Back (sym k.1 i) ((r.stand.last ∙ sym k.2) i)))
    (record s.log { last = t; horizon = horizon_at s.log.delay s.log.horizon t; marked = length s.log.accepted }, Marked (AtClock t)))
