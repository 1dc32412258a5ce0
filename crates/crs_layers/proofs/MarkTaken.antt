-- What layers stand for once a mark went through them, and what it answers of each run that they stood for.
use Rattle.std.proofs.Common.{◌≡◌, ℕ, zero, suc, ◌+◌, ◌-◌, ◌≤◌, ◌^◌, max, Bool, true, false, cond, List, [], ◌∷◌, ◌++◌, length, map, refl, sym, ap, subst, ◌∙◌, arith, true≢false, length-append}
use Rattle.std.specs.Prelude.{Some, slice_get}
use Rattle.std.specs.List.{AllByRecursion, AllZip}
use Rattle.std.proofs.lemmas.Bool.{le-ltb}
use Rattle.crs_base.specs.declared.symbols.Sym.{Sym}
use Rattle.crs_base.specs.Entry.{Entry}
use Rattle.crs_base.specs.Symbols.{AreDistinct}
use Rattle.crs_model.specs.declared.plan.Plan.{Plan}
use Rattle.crs_model.specs.declared.recognition.Mark.{Mark}
use Rattle.crs_model.specs.declared.recognition.Mark.TheVariants.{Clock as AtClock, Finish as AtEnd}
use Rattle.crs_model.specs.declared.recognition.Recognition.{Recognition}
use Rattle.crs_model.specs.Hierarchy.{lag_at}
use Rattle.crs_model.specs.Matching.{Assignment}
use Rattle.crs_model.specs.Models.{Chronicle}
use Rattle.crs_model.specs.Plans.{IsProper, chronicle}
use Rattle.crs_model.specs.Renaming.{text_in, renamed_chronicle, renamed_entry, renamed_assignment, IsChronicleOf, IsEntryOf}
use Rattle.crs_model.specs.Scopes.{Scope, ListsNew, IsNewIn}
use Rattle.crs_model.specs.SeenModels.{assignment_of}
use Rattle.crs_model.proofs.RenamedAssignments.{known_values}
use Rattle.crs_model.proofs.RenamedWindows.{no_stars}
use Rattle.crs_log.specs.Recognitions.{View, scope_in as read_in}
use Rattle.crs_log.specs.Run as run
use Rattle.crs_log.specs.Run.{Outcome, Refused, Marked, horizon_at}
use Rattle.crs_log.specs.Trace.{Answer, answer_of}
use Rattle.crs_store.specs.Answers.{IsRecognitionOf}
use Rattle.crs_engine.specs.Engines.{plans_of}
use Rattle.crs_layers.specs.Strata.{Placed, Stratum, behind, horizon_behind, after_mark, IsMarkFrom}
use Rattle.crs_layers.specs.StrataViews.{views_from, view_at}
use Rattle.crs_layers.specs.StrataAnswers.{AreNew}
use Rattle.crs_layers.specs.Runs.{Setting, State, Effect, is_full, after_ordered, horizon_of, some_flooded, views_of, IsAfter, IsItemEffect}
use Rattle.crs_layers.specs.declared.layer.Layer.{Layer}
use Rattle.crs_layers.specs.LayerPlans.{placed_of}
use Rattle.crs_layers.specs.LayerStates.{LayersState, first_of, horizon_in}
use Rattle.crs_layers.specs.Accepting.{IsSameLayer}
use Rattle.crs_layers.specs.Marks.{clock_of, horizon_for, ends}
use Rattle.crs_layers.specs.Standing.{HasText, AreLayersAt, placed_in, stratum_in, IsRunOf, StandFor, AreStanding, KnowSymbols, AreLayers}
use Rattle.crs_layers.specs.Passing.{Passing, next_horizon, IsTimely, AreReadyFor, HavePassed}
use Rattle.crs_layers.specs.Gathering.{scope_from, ListsNewOver, GathersAll}
use Rattle.crs_layers.specs.Takes.{GoOnBy, item_of, IsToldAs, TakeMark}
use Rattle.crs_layers.proofs.AtStart.{all_placed}
use Rattle.crs_layers.proofs.Logging.{unsaid, same_near, same_some, same_length, first_at}
use Rattle.crs_layers.proofs.TextSide.{IsTextual, IsKnown, scope_seen, scope_of_seen, scope_in_seen, known_scope, new_seen, mark_seen, flooded_seen, behind_seen}

-- ---- horizons

pub at_same : (g h : ℕ → ℕ) (last delay j : ℕ) (ss : List (Stratum Sym)) (ls : List Layer) → ((i : ℕ) → g i ≡ h i) → AreLayersAt g last delay j ss ls → AreLayersAt h last delay j ss ls
at_same g h last delay j ss ls e k = subst (λ (q : ℕ → ℕ). AreLayersAt q last delay j ss ls) (λ i n. e n i) k

at_length : (g : ℕ → ℕ) (last delay j : ℕ) (ss : List (Stratum Sym)) (ls : List Layer) → AreLayersAt g last delay j ss ls → length ss ≡ length ls
at_length g last delay j [] [] k = refl
at_length g last delay j [] (l ∷ ls) k = absurd k
at_length g last delay j (s ∷ ss) [] k = absurd k
at_length g last delay j (s ∷ ss) (l ∷ ls) k = ap suc (at_length g last delay (suc j) ss ls k.1)

-- of stratum 0 behind a mark, where it was h before
abbrev next_of : Mark → ℕ → ℕ → ℕ
next_of (AtClock t) h delay = max h (t - delay)
next_of AtEnd h delay = 2 ^ 42

next_within : (mark : Mark) (h delay last : ℕ) → IsTimely mark last → h ≤ 2 ^ 42 → next_of mark h delay ≤ 2 ^ 42
next_within (AtClock t) h delay last k l = let d = k.0 in omega (arith, d, l)
next_within AtEnd h delay last k l = omega arith

next_is : (mark : Mark) (ended : Bool) (h delay b : ℕ) → ended ≡ false → h ≤ 2 ^ 42 → max (horizon_behind ended h b) (horizon_for mark (delay + b)) ≡ horizon_behind (ends mark) (next_of mark h delay) b
next_is mark true h delay b e l = absurd (true≢false e)
next_is (AtClock t) false h delay b e l = omega arith
next_is AtEnd false h delay b e l = omega (arith, l)

end_closed : (mark : Mark) (h delay : ℕ) → ends mark ≡ true → (next_of mark h delay ≡ 2 ^ 42) × (clock_of mark ≡ 2 ^ 42)
end_closed (AtClock t) h delay e = absurd (true≢false (sym e))
end_closed AtEnd h delay e = (refl, refl)

falls_behind : (ended : Bool) → ended ≡ false → (h : ℕ) (cs : List (Placed Sym)) (i : ℕ) → horizon_behind ended h (behind cs (suc i)) ≤ (horizon_behind ended h (behind cs i) - lag_at i (map (λ c. (c.stratum, c.lag)) cs))
falls_behind true e h cs i = absurd (true≢false e)
falls_behind false e h cs i = omega arith

pub at_first : (ended : Bool) → ended ≡ false → (h : ℕ) → horizon_behind ended h 0 ≡ h
at_first true e h = absurd (true≢false e)
at_first false e h = omega arith

-- ---- stratum 0 accepts nothing at a mark

first_kept : (text_of : Sym → List ℕ) (cs : List (Placed Sym)) (limit : ℕ) (g h : ℕ → ℕ) (last then delay : ℕ) (ss news : List (Stratum Sym)) (all : List (List (Entry Sym))) (ls ms : List Layer)
    → AreLayersAt g last delay 0 ss ls → IsMarkFrom text_of cs limit g h 0 [] ss news all → AreLayersAt h then delay 0 news ms → AllZip IsSameLayer ls ms → first_of (λ e. e.accepted) ms ≡ first_of (λ e. e.accepted) ls + 0
first_kept text_of cs limit g h last then delay ss news all [] [] k m q z = refl
first_kept text_of cs limit g h last then delay ss news all [] (n ∷ ms) k m q z = absurd z
first_kept text_of cs limit g h last then delay ss news all (l ∷ ls) [] k m q z = absurd z
first_kept text_of cs limit g h last then delay [] news all (l ∷ ls) (n ∷ ms) k m q z = absurd k
first_kept text_of cs limit g h last then delay (s ∷ ss) [] all (l ∷ ls) (n ∷ ms) k m q z = absurd q
first_kept text_of cs limit g h last then delay (s ∷ ss) (t ∷ ts) all (l ∷ ls) (n ∷ ms) k m q z =
    let e = m.3 in
    let same : t ≡ after_mark limit s [] = cc in
    let long : length t.accepted ≡ length (s.accepted ++ []) = ap (λ (u : Stratum Sym). length u.accepted) same in
    let sum = length-append s.accepted [] in
    let a = k.0.count in
    let b = q.0.count in
    omega (arith, long, sum, a, b)

-- ---- answers

zip_append : {A B : Type 0} (R : A → B → Type 0) (xs zs : List A) (ys ws : List B) → AllZip R xs ys → AllZip R zs ws → AllZip R (xs ++ zs) (ys ++ ws)
zip_append R [] zs [] ws h k = k
zip_append R [] zs (y ∷ ys) ws h k = absurd h
zip_append R (x ∷ xs) zs [] ws h k = absurd h
zip_append R (x ∷ xs) zs (y ∷ ys) ws h k = (h.0, zip_append R xs zs ys ws h.1 k)

module _ (texts : List (List ℕ)) where
  abbrev f : Sym → List ℕ
  f = text_in texts

  from_seen : (g : ℕ → ℕ) (j : ℕ) (ss : List (Stratum Sym)) (k : ℕ) (c : Chronicle Sym)
      → scope_seen texts (scope_from g j ss k c) ≡ read_in (renamed_chronicle f c) (view_at (views_from g j (map (stratum_in texts) ss)) k)
  from_seen g j [] k c = scope_of_seen texts c [] [] 0
  from_seen g j (s ∷ ss) zero c = scope_in_seen texts s (g j) c
  from_seen g j (s ∷ ss) (suc k) c = from_seen g (suc j) ss k c

  from_known : (g : ℕ → ℕ) (j : ℕ) (ss : List (Stratum Sym)) (k : ℕ) (c : Chronicle Sym) → AllByRecursion (λ s. AllByRecursion (IsEntryOf (HasText texts)) s.accepted) ss → IsKnown texts (scope_from g j ss k c)
  from_known g j [] k c h = record { pool = by c.prompt; settled = tt }
    where
      by : (b : Bool) → AllByRecursion (IsEntryOf (HasText texts)) (cond b [] [])
      by true = tt
      by false = tt
  from_known g j (s ∷ ss) zero c h = known_scope texts s (g j) h.0 c
  from_known g j (s ∷ ss) (suc k) c h = from_known g (suc j) ss k c h.1

  module _ (distinct : AreDistinct texts) (all : List Plan) (mark : Mark) where
    apart : (x y : Sym) → HasText texts x → HasText texts y → f x ≡ f y → x ≡ y
    apart x y p q e = ap (λ n. record { 0 = n }) (distinct x.0 y.0 p q e)

    some_told : (p : Plan) (n : ℕ) (was now : Scope Sym) → IsTextual texts (chronicle p) → IsKnown texts now → slice_get all n ≡ Some p → (rs : List Recognition) → AllByRecursion (IsRecognitionOf (chronicle p) n mark) rs
        → AllByRecursion (IsNewIn (chronicle p) was now) (map assignment_of rs)
        → AllZip (IsToldAs all texts mark) rs (map (answer_of n (renamed_chronicle f (chronicle p))) (map (renamed_assignment f) (map assignment_of rs)))
    some_told p n was now t known at [] each new = tt
    some_told p n was now t known at (r ∷ rs) each new = (
      record {
        plan = p;
        at = at;
        recognition = each.0;
        known = known_values f (HasText texts) apart (chronicle p) t.of t.named t.stars now.pool (assignment_of r) known.pool new.0.0.assignment;
        chronicle_is = refl;
        assignment_is = refl;
      },
      some_told p n was now t known at rs each.1 new.1,
    )

    module _ (g h : ℕ → ℕ) (olds news : List (Stratum Sym)) (known_olds : AllByRecursion (λ s. AllByRecursion (IsEntryOf (HasText texts)) s.accepted) olds)
        (known_news : AllByRecursion (λ s. AllByRecursion (IsEntryOf (HasText texts)) s.accepted) news) where
      abbrev was : List View
      was = views_from g 0 (map (stratum_in texts) olds)

      abbrev now : List View
      now = views_from h 0 (map (stratum_in texts) news)

      record Told (n : ℕ) (cs : List (Placed Sym)) (list : List Recognition) : Type 0 where
        answers : List Answer
        new : AreNew n (map (placed_in texts) cs) was now answers
        told : AllZip (IsToldAs all texts mark) list answers

      all_told : (n : ℕ) (ps : List Plan) (ks : List ℕ) (list : List Recognition) → ((i : ℕ) → slice_get all (n + i) ≡ slice_get ps i) → AllByRecursion (λ p. IsTextual texts (chronicle p)) ps
          → ListsNewOver ps ks n mark (scope_from g 0 olds) (scope_from h 0 news) list → Told n (placed_of ps ks) list
      all_told n [] ks list at t l = record { answers = []; new = refl; told = subst (λ (rs : List Recognition). AllZip (IsToldAs all texts mark) rs []) (sym l) tt }
      all_told n (p ∷ ps) [] list at t l = record { answers = []; new = refl; told = subst (λ (rs : List Recognition). AllZip (IsToldAs all texts mark) rs []) (sym l) tt }
      all_told n (p ∷ ps) (k ∷ ks) list at t l =
          let z : n + 0 ≡ n = omega arith in
          let here : slice_get all n ≡ Some p = ap (slice_get all) (sym z) ∙ at 0 in
          let next : (i : ℕ) → slice_get all (suc n + i) ≡ slice_get ps i = λ i. (let sum : suc n + i ≡ n + suc i = omega arith in ap (slice_get all) sum ∙ at (suc i)) in
          let rest = all_told (suc n) ps ks l.1 next t.1 l.4 in
          let was_here : Scope Sym = scope_from g 0 olds k (chronicle p) in
          let now_here : Scope Sym = scope_from h 0 news k (chronicle p) in
          let known_was : IsKnown texts was_here = from_known g 0 olds k (chronicle p) known_olds in
          let known_now : IsKnown texts now_here = from_known h 0 news k (chronicle p) known_news in
          let bs : List (Assignment (List ℕ)) = map (renamed_assignment f) (map assignment_of l.0) in
          let listed : ListsNew (renamed_chronicle f (chronicle p)) (read_in (renamed_chronicle f (chronicle p)) (view_at was k)) (read_in (renamed_chronicle f (chronicle p)) (view_at now k)) bs =
          subst (λ (s : Scope (List ℕ)). ListsNew (renamed_chronicle f (chronicle p)) s (read_in (renamed_chronicle f (chronicle p)) (view_at now k)) bs) (from_seen g 0 olds k (chronicle p))
          (subst (λ (s : Scope (List ℕ)). ListsNew (renamed_chronicle f (chronicle p)) (scope_seen texts was_here) s bs) (from_seen h 0 news k (chronicle p))
          (new_seen texts distinct (chronicle p) t.0 was_here now_here known_was known_now (map assignment_of l.0) l.3.listed)) in
          record {
            answers = map (answer_of n (renamed_chronicle f (chronicle p))) bs ++ rest.answers;
            new = (bs, rest.answers, listed, rest.new, refl);
            told = subst (λ (rs : List Recognition). AllZip (IsToldAs all texts mark) rs (map (answer_of n (renamed_chronicle f (chronicle p))) bs ++ rest.answers)) (sym l.2)
                (zip_append (IsToldAs all texts mark) l.0 l.1 (map (answer_of n (renamed_chronicle f (chronicle p))) bs) rest.answers
                (some_told p n was_here now_here t.0 known_now here l.0 l.3.each l.3.listed.each) rest.told);
          }

-- ---- the chronicles have texts

textual_each : (texts : List (List ℕ)) (ps : List Plan) → AllByRecursion IsProper ps → AllByRecursion (λ p. IsChronicleOf (HasText texts) (chronicle p)) ps → AllByRecursion (λ p. IsTextual texts (chronicle p)) ps
textual_each texts [] proper of = tt
textual_each texts (p ∷ ps) proper of = (
  record { of = of.0; named = proper.0.named; stars = no_stars proper.0.declared.0 (chronicle p) (chronicle p).windows proper.0.declared.2.windows },
  textual_each texts ps proper.1 of.1,
)

textual_placed : (texts : List (List ℕ)) (ps : List Plan) (ks : List ℕ) → AllByRecursion (λ p. IsTextual texts (chronicle p)) ps → AllByRecursion (λ c. IsTextual texts c.chronicle) (placed_of ps ks)
textual_placed texts [] ks h = tt
textual_placed texts (p ∷ ps) [] h = tt
textual_placed texts (p ∷ ps) (k ∷ ks) h = (h.0, textual_placed texts ps ks h.1)

-- ---- the log's state behind a mark

abbrev log_after : Mark → run.State → run.State
log_after mark u = record u { last = clock_of mark; horizon = next_of mark u.horizon u.delay; ended = ends mark; marked = length u.accepted }

becomes : (c : run.Setting) (full : Bool) (u : run.State) (mark : Mark) → u.ended ≡ false → IsTimely mark u.last → ◌≡◌ {A = run.State × Outcome} (after_ordered c full u (item_of mark)) (log_after mark u, Marked mark)
becomes c full u (AtClock t) e k =
    let l = k.1 in
    (λ i. cond {A = run.State × Outcome} (le-ltb t u.last l i) (u, Refused (run.Back t u.last)) (record u { last = t; horizon = horizon_at u.delay u.horizon t; marked = length u.accepted }, Marked (AtClock t)))
    ∙ (λ i. (record u { last = t; horizon = horizon_at u.delay u.horizon t; ended = e i; marked = length u.accepted }, Marked (AtClock t)))
becomes c full u AtEnd e k = refl

module _ (texts : List (List ℕ)) (mark : Mark) (x : LayersState) (inv : AreLayers x) (running : x.stopped ≡ false) (not_ended : x.ended ≡ false) (timely : IsTimely mark x.last) (known : KnowSymbols texts x) where
  abbrev a : AreStanding (IsEntryOf (HasText texts)) x
  a = known.entries running

  abbrev cs_of : List ℕ → List (Placed Sym)
  cs_of ks = placed_of (plans_of x.plans) ks

  -- what they stand for by themselves
  abbrev pub alone : Passing
  alone = record {
    plans = plans_of x.plans;
    numbers = a.numbers;
    focus = x.focus;
    limit = x.limit;
    horizons = λ j. horizon_behind x.ended a.horizon (behind (cs_of a.numbers) j);
    last = x.last;
    delay = a.delay;
    stratum = 0;
    strata = a.strata;
  }

  pub ready_alone : AreReadyFor texts mark alone x.layers
  ready_alone = record {
    distinct = known.distinct;
    proper = inv.proper;
    known_plans = known.plans;
    placed = all_placed (plans_of x.plans) a.numbers inv.proper inv.lags;
    behind = falls_behind x.ended not_ended a.horizon (cs_of a.numbers);
    of = a.of;
    at = a.at;
    known = a.each;
    timely = timely;
  }

  module _ (ms : List Layer) (more : List (List Recognition)) (flood : Bool) (same : AllZip IsSameLayer x.layers ms) (passed : (w : Passing) → AreReadyFor texts mark w x.layers → HavePassed texts mark w ms more flood) where
    abbrev pub moved : LayersState
    moved = record x { layers = ms; last = clock_of mark; ended = ends mark }

    abbrev went : HavePassed texts mark alone ms more flood
    went = passed alone ready_alone

    pub layers_moved : AreLayers moved
    layers_moved = record {
      some = same_some x.layers ms same inv.some;
      near = same_near x.layers ms same inv.near;
      proper = inv.proper;
      lags = inv.lags;
      standing = λ _. record {
        numbers = a.numbers;
        of = went.of;
        horizon = next_of mark a.horizon a.delay;
        delay = a.delay;
        strata = went.news;
        at = at_same (next_horizon mark alone) (λ j. horizon_behind (ends mark) (next_of mark a.horizon a.delay) (behind (cs_of a.numbers) j)) (clock_of mark) a.delay 0 went.news ms
            (λ j. next_is mark x.ended a.horizon a.delay (behind (cs_of a.numbers) j) not_ended a.within) went.at;
        each = unsaid went.news;
        within = next_within mark a.horizon a.delay x.last timely a.within;
        closed = end_closed mark a.horizon a.delay;
      };
    }

    pub goes_on : GoOnBy 0 x moved
    goes_on = record {
      same_plans = refl;
      same_focus = refl;
      same_limit = refl;
      accepted = first_kept (text_in texts) (cs_of a.numbers) x.limit alone.horizons (next_horizon mark alone) x.last (clock_of mark) a.delay a.strata went.news went.given x.layers ms a.at went.is went.at same;
    }

    module _ (list : List Recognition) (gathers : GathersAll ms more list) where
      module _ (c : Setting) (s : State) (n : ℕ) (b : StandFor c s x) (same_texts : s.log.texts ≡ texts) (open_now : s.log.ended ≡ false) where
        r : IsRunOf (plans_of x.plans) b.numbers texts c
        r = subst (λ (ts : List (List ℕ)). IsRunOf (plans_of x.plans) b.numbers ts c) same_texts b.run

        abbrev cs : List (Placed Sym)
        cs = cs_of b.numbers

        known_was : AllByRecursion (λ t. AllByRecursion (IsEntryOf (HasText texts)) t.accepted) b.strata
        known_was = subst (λ (ts : List (List ℕ)). AllByRecursion (λ t. AllByRecursion (IsEntryOf (HasText ts)) t.accepted) b.strata) same_texts b.known

        seen_was : map (stratum_in texts) b.strata ≡ s.strata
        seen_was = subst (λ (ts : List (List ℕ)). map (stratum_in ts) b.strata ≡ s.strata) same_texts b.seen

        low : s.log.horizon ≤ 2 ^ 42
        low =
            let e : horizon_in x ≡ s.log.horizon = first_at (horizon_of c s.log) s.log.last s.log.delay b.strata x inv.some b.at ∙ at_first s.log.ended open_now s.log.horizon in
            let d : horizon_in x ≡ a.horizon = first_at alone.horizons x.last a.delay a.strata x inv.some a.at ∙ at_first x.ended not_ended a.horizon in
            let l = a.within in
            omega (arith, e, d, l)

        abbrev own : ℕ → ℕ
        own j = horizon_behind s.log.ended s.log.horizon (behind cs j)

        same_behind : (j : ℕ) → behind c.placed j ≡ behind cs j
        same_behind j = ap (λ (ps : List (Placed (List ℕ))). behind ps j) r.placed ∙ sym (behind_seen texts cs j)

        own_is : (j : ℕ) → horizon_of c s.log j ≡ own j
        own_is j = ap (horizon_behind s.log.ended s.log.horizon) (same_behind j)

        abbrev w : Passing
        w = record { plans = plans_of x.plans; numbers = b.numbers; focus = x.focus; limit = x.limit; horizons = own; last = s.log.last; delay = s.log.delay; stratum = 0; strata = b.strata }

        ready_w : AreReadyFor texts mark w x.layers
        ready_w = record {
          distinct = known.distinct;
          proper = inv.proper;
          known_plans = known.plans;
          placed = all_placed (plans_of x.plans) b.numbers inv.proper inv.lags;
          behind = falls_behind s.log.ended open_now s.log.horizon cs;
          of = b.of;
          at = at_same (horizon_of c s.log) own s.log.last s.log.delay 0 b.strata x.layers own_is b.at;
          known = known_was;
          timely = subst (IsTimely mark) (sym b.last) timely;
        }

        abbrev p : HavePassed texts mark w ms more flood
        p = passed w ready_w

        abbrev then : State
        then = record { log = log_after mark s.log; strata = map (stratum_in texts) p.news }

        next_own : (j : ℕ) → next_horizon mark w j ≡ horizon_of c then.log j
        next_own j = next_is mark s.log.ended s.log.horizon s.log.delay (behind cs j) open_now low ∙ ap (horizon_behind (ends mark) (next_of mark s.log.horizon s.log.delay)) (sym (same_behind j))

        abbrev gave : List (List (Entry (List ℕ)))
        gave = map (map (renamed_entry (text_in texts))) p.given

        textual : AllByRecursion (λ q. IsTextual texts (chronicle q)) (plans_of x.plans)
        textual = textual_each texts (plans_of x.plans) inv.proper known.plans

        strata_after : IsAfter c s then.log (Marked mark) then.strata gave
        strata_after =
            let raw = mark_seen texts known.distinct cs (textual_placed texts (plans_of x.plans) b.numbers textual) x.limit own (next_horizon mark w) 0 [] b.strata p.news p.given known_was p.known p.is in
            subst (λ (q : List (Placed (List ℕ)) × ℕ × (ℕ → ℕ) × (ℕ → ℕ) × List (Stratum (List ℕ))). IsMarkFrom (λ y. y) q.0 q.1 q.2 q.3 0 [] q.4 then.strata gave)
            (λ i. (sym r.placed i, b.limit i, λ j. sym (own_is j) i, λ j. next_own j i, seen_was i)) raw

        flood_is : flood ≡ some_flooded c.log.entries s.strata gave
        flood_is = p.flooded ∙ flooded_seen texts x.limit b.strata p.given ∙ (λ i. some_flooded (b.limit i) (seen_was i) gave)

        over : ListsNewOver (plans_of x.plans) b.numbers 0 mark (scope_from own 0 b.strata) (scope_from (next_horizon mark w) 0 p.news) list
        over = gathers (plans_of x.plans) b.numbers x.focus x.limit mark own (next_horizon mark w) b.strata p.news p.of (at_length own s.log.last s.log.delay 0 b.strata x.layers ready_w.at ∙ sym (same_length x.layers ms same)) p.answered

        told : Told texts known.distinct (plans_of x.plans) mark own (next_horizon mark w) b.strata p.news known_was p.known 0 cs list
        told = all_told texts known.distinct (plans_of x.plans) mark own (next_horizon mark w) b.strata p.news known_was p.known 0 (plans_of x.plans) b.numbers list
            (λ i. (let z : 0 + i ≡ i = omega arith in ap (slice_get (plans_of x.plans)) z)) textual over

        new_is : AreNew 0 c.placed (views_of c s) (views_of c then) told.answers
        new_is =
            subst (λ (q : List (Placed (List ℕ)) × List View × List View). AreNew 0 q.0 q.1 q.2 told.answers)
            (λ i. (sym r.placed i, views_from (λ j. sym (own_is j) i) 0 (seen_was i), views_from (λ j. next_own j i) 0 then.strata)) told.new

        abbrev effect : Effect
        effect = record { number = n; outcome = Marked mark; given = gave; flood = flood; was = views_of c s; now = views_of c then; answers = told.answers }

        steps : IsItemEffect c s n (item_of mark) effect then
        steps = record {
          number = refl;
          log = becomes c.log (is_full c.log.entries s.strata) s.log mark open_now ready_w.timely;
          strata = strata_after;
          flood = flood_is;
          was = refl;
          now = refl;
          answers = new_is;
        }

        stand : StandFor c then moved
        stand = record {
          numbers = b.numbers;
          run = b.run;
          of = p.of;
          limit = b.limit;
          last = refl;
          ended = refl;
          strata = p.news;
          known = subst (λ (ts : List (List ℕ)). AllByRecursion (λ t. AllByRecursion (IsEntryOf (HasText ts)) t.accepted) p.news) (sym same_texts) p.known;
          seen = ap (λ (ts : List (List ℕ)). map (stratum_in ts) p.news) same_texts;
          at = at_same (next_horizon mark w) (horizon_of c then.log) (clock_of mark) s.log.delay 0 p.news ms next_own p.at;
          running = running;
        }

      pub mark_taken : TakeMark texts (item_of mark) mark x moved list flood
      mark_taken c s n b same_texts open_now = (
        effect c s n b same_texts open_now,
        then c s n b same_texts open_now,
        steps c s n b same_texts open_now,
        record { outcome = refl; told = (told c s n b same_texts open_now).told; flooded = refl },
        stand c s n b same_texts open_now,
      )
