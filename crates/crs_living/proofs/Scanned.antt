-- What comes of an instance as events are decided on.
use Rattle.std.proofs.Common.{Bool, true, false, get_or, ◌≡◌, ◌≢◌, ℕ, suc, ◌<◌, ◌≤◌, List, [], ◌∷◌, ◌++◌, length, refl, sym, ap, subst, ◌∙◌, inl, inr, ◌⊎◌, arith, length-append, length-set, append_assoc, append-nil}
use Rattle.std.specs.Prelude.{Some, None, Option, IfSome, pos, ◌≤ℤ◌, ℤ, slice_get}
use Rattle.std.specs.Ordering.{ordering_reverse}
use Rattle.std.specs.declared.cmp.Ordering.{Ordering}
use Rattle.std.specs.declared.cmp.Ordering.TheVariants.{Less, Equal, Greater}
use Rattle.std.specs.List.{AllByRecursion}
use Rattle.std.proofs.lemmas.Bool.{cases_eq}
use Rattle.std.proofs.lemmas.Int.{ints}
use Rattle.std.proofs.lemmas.List.{length-map, map-append}
use Rattle.crs_base.specs.declared.symbols.Sym.{Sym}
use Rattle.crs_base.specs.Entry.{Entry, entry_cmp, IsInKeyOrder}
use Rattle.crs_base.proofs.KeyOrder.{entry_total}
use Rattle.crs_base.specs.Words.{IsIn, Ordered}
use Rattle.crs_base.proofs.Alls.{all_append}
use Rattle.crs_base.proofs.Words.{in_append, in_append_left, in_append_right, in_from_each}
use Rattle.crs_history.specs.Histories.{HistoryState}
use Rattle.crs_history.specs.Keyed.{HaveKnown}
use Rattle.crs_history.proofs.FarBack.{far_later}
use Rattle.crs_focus.specs.Candidacy.{IsHeldFor}
use Rattle.crs_instance.specs.Instances.{InstanceState, IsOf, CanBe, window_at}
use Rattle.crs_instance.specs.Waits.{AnotherIsLate}
use Rattle.crs_instance.proofs.BindAnswers.{event_as}
use Rattle.crs_instance.proofs.Openings.{beginnings_can_be, candidates_fit, more_binds}
use Rattle.crs_model.specs.declared.plan.Plan.{Plan}
use Rattle.crs_model.specs.Bindings.{look_of, Looser}
use Rattle.crs_model.specs.Images.{IsImage}
use Rattle.crs_model.specs.Matching.{PatternIs}
use Rattle.crs_model.specs.Models.{EventDef}
use Rattle.crs_model.specs.declared.chronicle.EventDef.{EventDef as CodeEvent}
use Rattle.crs_model.specs.Partial.{Partial, at, put, EqualsAll, IsAwaited, IsLevelClosed, dates_of}
use Rattle.crs_model.specs.Plans.{chronicle, IsProper}
use Rattle.crs_model.specs.Scans.{Decides, DecidesWith, StartsAt}
use Rattle.crs_model.specs.SeenModels.{event_of}
use Rattle.crs_model.specs.Steps.{GoesOn}
use Rattle.crs_model.proofs.Decided.{decided_start, decided_one, never_left, decided_end, decided_up, with_one_more}
use Rattle.crs_model.proofs.Images.{image_none}
use Rattle.crs_model.proofs.Least.{Extends}
use Rattle.crs_model.proofs.Options.{cases_of, of_some, some_if}
use Rattle.crs_model.proofs.Parts.{put_same, put_other, agrees_part}
use Rattle.crs_model.proofs.Scanning.{put_closed}
use Rattle.crs_stn.specs.Bound.{Agrees, Meets}
use Rattle.crs_stn.specs.DateWindow.{IsLatest}
use Rattle.crs_focus.specs.PlanLevels.{levels_in, AreToDecide, IsLevelAbove, IsNoLevelAbove, AreAwaited}
use Rattle.crs_living.specs.Scannings.{Adds, IsOnTheWay, IsKeptIfAble, IsDecided, IsDecidedAt, AreDecidedWith, AreForksAt}
use Rattle.crs_living.specs.Parts.{parts}
use Rattle.crs_living.specs.Now.{IsNow}
use Rattle.crs_living.specs.Windows.{IsAble, IsBegun, IsPassed, IsOpenAt, IsOver}
use Rattle.crs_watch.specs.Known.{AreTold}
use Rattle.crs_watch.proofs.Telling.{have_told}
use Rattle.crs_living.proofs.Kept.{dated_from_floor, history_holds}
use Rattle.crs_living.proofs.Leaving.{one_stays, one_goes}
use Rattle.crs_living.proofs.Overs.{open_able, starts_after, floor_early}

-- an instance binds what each binding has that makes the patterns equal all that it has
less_binds : (plan : Plan) (i : InstanceState) (b : Partial Sym) (look : ℕ → Option Sym) → IsOf plan i → Extends i.partial b → EqualsAll (chronicle plan) b look → Looser (look_of i.binding) look
less_binds plan i b look of part all v x e = of.binding.least look equal v x e
  where
    equal : EqualsAll (chronicle plan) i.partial look
    equal f = some_if (slice_get (chronicle plan).events f) _ (λ ev k. some_if (at i.partial f) _ (λ y l. of_some (at b f) y _ (part f y l) (of_some (slice_get (chronicle plan).events f) ev _ k (all f))))

-- ---- lists that grow

module _ (plan : Plan) (focus : Bool) (n : ℕ) where
  pub adds_none : (Are : List InstanceState → Type 0) (old : List InstanceState) → Are [] → Adds plan focus n Are old old
  adds_none Are old are = record { more = []; grown = sym (append-nil old); of = tt; able = tt; are = are }

  pub adds_one : (Are : List InstanceState → Type 0) (old new : List InstanceState) (i : InstanceState) → new ≡ old ++ i ∷ [] → IsOf plan i → IsAble plan focus n i → Are (i ∷ []) → Adds plan focus n Are old new
  adds_one Are old new i grown of able are = record { more = i ∷ []; grown = grown; of = (of, tt); able = (able, tt); are = are }

  pub adds_as : (These Those : List InstanceState → Type 0) (old new : List InstanceState) → ((more : List InstanceState) → These more → Those more) → Adds plan focus n These old new → Adds plan focus n Those old new
  adds_as These Those old new to a = record { more = a.more; grown = a.grown; of = a.of; able = a.able; are = to a.more a.are }

  pub adds_both : (These Those All : List InstanceState → Type 0) (old mid new : List InstanceState) → ((one two : List InstanceState) → These one → Those two → All (one ++ two)) → Adds plan focus n These old mid → Adds plan focus n Those mid new → Adds plan focus n All old new
  adds_both These Those All old mid new to a b = record {
    more = a.more ++ b.more;
    grown = b.grown ∙ ap (λ (t : List InstanceState). t ++ b.more) a.grown ∙ append_assoc old a.more b.more;
    of = all_append (IsOf plan) a.more b.more a.of b.of;
    able = all_append (IsAble plan focus n) a.more b.more a.able b.able;
    are = to a.more b.more a.are b.are;
  }

-- ---- itself, where it is able

module _ (plan : Plan) (focus : Bool) (proper : IsProper plan) (history : HistoryState) (x : Entry Sym) (since until : ℕ) (parent next begun passed : InstanceState) (of_parent : IsOf plan parent) (of_next : IsOf plan next) (of_passed : IsOf plan passed)
    (begins : IsBegun plan history since parent next begun) (passes : IsPassed plan history since until begun passed) where
  same_part : passed.partial ≡ next.partial
  same_part = ap (λ (t : InstanceState). t.partial) passes.same.same ∙ ap (λ (t : InstanceState). t.partial) begins.same.same

  over_passed : (pool entries : List (Entry Sym)) → IsNow plan focus history x since pool entries → since ≤ until → IsOver plan focus pool entries since parent → IsOnTheWay plan focus pool x parent next → IsOver plan focus pool entries until passed
  over_passed pool entries now later over way =
      let starts = starts_after plan proper next of_next (way.bound).0 x (way.bound).1 history.floor (far_later plan.reach since x.date history.floor now.early now.read.far) in
      record {
        given = λ e y i. way.given e y (subst (λ (t : Partial Sym). at t e ≡ Some y) same_part i);
        closed = subst (IsLevelClosed (levels_in plan focus)) (sym same_part) way.closed;
        follows = passes.follows entries later now.read (floor_early plan proper since history.floor now.read.far)
            (begins.follows entries now.read.kept now.read.few starts (way.has, more_binds plan parent next of_parent of_next way.has) over.follows);
      }

  fine_image : (pool entries : List (Entry Sym)) (out : List (Partial Sym)) → IsImage (GoesOn (IsOpenAt plan focus pool entries until)) (passed.partial ∷ []) out → IsImage (GoesOn (IsOpenAt plan focus pool entries until)) (next.partial ∷ []) out
  fine_image pool entries out im = subst (λ (t : Partial Sym). IsImage (GoesOn (IsOpenAt plan focus pool entries until)) (t ∷ []) out) same_part im

  pub kept_able : IsAble plan focus until passed → IsKeptIfAble plan focus history x since until parent next (passed ∷ [])
  kept_able able pool entries now later over way =
      let o = over_passed pool entries now later over way in
      let image = fine_image pool entries (passed.partial ∷ []) (one_stays (IsAble plan focus until) (λ i. IsOf plan i × IsOver plan focus pool entries until i) (IsOpenAt plan focus pool entries until)
      (λ i q p. (open_able plan focus pool entries until i q.0 q.1).1 p) (λ i q f. (open_able plan focus pool entries until i q.0 q.1).0 f) passed (of_passed, o) able) in
      (image, (o, tt))

  pub kept_unable : (IsAble plan focus until passed → ⊥) → IsKeptIfAble plan focus history x since until parent next []
  kept_unable unable pool entries now later over way =
      let o = over_passed pool entries now later over way in
      let image = fine_image pool entries [] (one_goes (IsAble plan focus until) (λ i. IsOf plan i × IsOver plan focus pool entries until i) (IsOpenAt plan focus pool entries until)
      (λ i q p. (open_able plan focus pool entries until i q.0 q.1).1 p) (λ i q f. (open_able plan focus pool entries until i q.0 q.1).0 f) passed (of_passed, o) unable) in
      (image, tt)

-- ---- the lists of events

module _ (level : ℕ → ℕ) (a : Partial Sym) (l : ℕ) (rest : List ℕ) (e : ℕ) (todo : AreToDecide level a l (rest ++ e ∷ [])) where
  last_in : IsIn e (rest ++ e ∷ [])
  last_in = in_append_right rest (e ∷ []) e (inl refl)

  pub last_awaited : IsAwaited level a e
  last_awaited = todo.awaited e last_in

  pub last_level : level e ≡ l
  last_level = todo.same e last_in

  ordered_front : (fs : List ℕ) → Ordered (λ f g. f ≢ g) (fs ++ e ∷ []) → Ordered (λ f g. f ≢ g) fs
  ordered_front [] o = tt
  ordered_front (f ∷ fs) o = (each_front fs (λ g. f ≢ g) o.0, ordered_front fs o.1)
    where
      each_front : (gs : List ℕ) (P : ℕ → Type 0) → AllByRecursion P (gs ++ e ∷ []) → AllByRecursion P gs
      each_front [] P h = tt
      each_front (g ∷ gs) P h = (h.0, each_front gs P h.1)

  pub last_apart : IsIn e rest → ⊥
  last_apart i = by rest todo.apart i
    where
      by : (fs : List ℕ) → Ordered (λ f g. f ≢ g) (fs ++ e ∷ []) → IsIn e fs → ⊥
      by [] o k = k
      by (f ∷ fs) o (inl s) = in_from_each (λ g. f ≢ g) (fs ++ e ∷ []) o.0 e (in_append_right fs (e ∷ []) e (inl refl)) (sym s)
      by (f ∷ fs) o (inr k) = by fs o.1 k

  rest_few : length rest ≤ 16
  rest_few = let k = todo.few in omega (arith, length-append rest (e ∷ []))

  -- where the last is left
  pub rest_to_decide : AreToDecide level a l rest
  rest_to_decide = record {
    awaited = λ f i. todo.awaited f (in_append_left rest (e ∷ []) f i);
    same = λ f i. todo.same f (in_append_left rest (e ∷ []) f i);
    apart = ordered_front rest todo.apart;
    few = rest_few;
  }

  -- where it is bound
  pub bound_to_decide : (b : Partial Sym) (y : Entry Sym) → b ≡ put a e y → AreToDecide level b l rest
  bound_to_decide b y is = subst (λ (t : Partial Sym). AreToDecide level t l rest) (sym is) (record {
    awaited = λ f i.
        let w = todo.awaited f (in_append_left rest (e ∷ []) f i) in
        let other : f ≢ e = (λ s. last_apart (subst (λ (n : ℕ). IsIn n rest) s i)) in
        record {
          within = let k = w.within in omega (arith, length-set a e (Some y));
          unbound = put_other a e f y other ∙ w.unbound;
          least = λ g m n. elim (cases_eq g e) [
            | inl s ↦ absurd (never (at (put a e y) e) y (put_same a e y last_awaited.within) (subst (λ (k : ℕ). at (put a e y) k ≡ None) s n))
            | inr o ↦ w.least g (omega (arith, length-set a e (Some y))) (sym (put_other a e g y o) ∙ n)
          ];
        };
    same = λ f i. todo.same f (in_append_left rest (e ∷ []) f i);
    apart = ordered_front rest todo.apart;
    few = rest_few;
  })
    where
      never : (o : Option (Entry Sym)) (y : Entry Sym) → o ≡ Some y → o ≡ None → ⊥
      never o y s n = cc

  pub others_of : (f : ℕ) → IsIn f (rest ++ e ∷ []) → (f ≡ e) ⊎ IsIn f rest
  others_of f i = elim (in_append rest (e ∷ []) f i) [ inl k ↦ inr k | inr k ↦ elim k [ inl s ↦ inl s | inr never ↦ absurd never ] ]

-- ---- one event is decided on

module _ (plan : Plan) (focus : Bool) (proper : IsProper plan) (history : HistoryState) (x : Entry Sym) (since until : ℕ) (parent next : InstanceState) (l : ℕ) (rest : List ℕ) (e : ℕ) (of : IsOf plan next) (todo : AreToDecide (levels_in plan focus) next.partial l (rest ++ e ∷ [])) where
  awaited : IsAwaited (levels_in plan focus) next.partial e
  awaited = last_awaited (levels_in plan focus) next.partial l rest e todo

  event_there : (def : EventDef Sym) × (slice_get (chronicle plan).events e ≡ Some def)
  event_there = by (chronicle plan).events e (let a = length-map plan.chronicle.events event_of in let w = awaited.within in let s = of.len in omega arith)
    where
      by : (vs : List (EventDef Sym)) (k : ℕ) → k < length vs → (def : EventDef Sym) × (slice_get vs k ≡ Some def)
      by [] k m = absurd (omega arith)
      by (v ∷ vs) ℕ.zero m = (v, refl)
      by (v ∷ vs) (suc k) m = by vs k (omega arith)

  -- on the way with one more
  pub way_on : (pool : List (Entry Sym)) (y : Entry Sym) → IsIn y pool → (f : InstanceState) → f.partial ≡ put next.partial e y → IsOnTheWay plan focus pool x parent next → IsOnTheWay plan focus pool x parent f
  way_on pool y there f is way = record {
    has = λ g z i. subst (λ (t : Partial Sym). at t g ≡ Some z) (sym is) (kept g z (way.has g z i));
    given = λ g z i. elim (cases_eq g e) [
      | inl s ↦ subst (λ (t : Entry Sym). IsIn t pool) (one (sym (put_same next.partial e y awaited.within) ∙ subst (λ (n : ℕ). at (put next.partial e y) n ≡ Some z) s (subst (λ (t : Partial Sym). at t g ≡ Some z) is i))) there
      | inr o ↦ way.given g z (sym (put_other next.partial e g y o) ∙ subst (λ (t : Partial Sym). at t g ≡ Some z) is i)
    ];
    bound = ((way.bound).0, subst (λ (t : Partial Sym). at t (way.bound).0 ≡ Some x) (sym is) (kept (way.bound).0 x (way.bound).1));
    closed = subst (IsLevelClosed (levels_in plan focus)) (sym is) (put_closed (levels_in plan focus) next.partial e y awaited way.closed);
  }
    where
      one : {p q : Entry Sym} → Some p ≡ Some q → p ≡ q
      one s = cc

      never : (o : Option (Entry Sym)) (z : Entry Sym) → o ≡ Some z → o ≡ None → ⊥
      never o z s n = cc

      kept : (g : ℕ) (z : Entry Sym) → at next.partial g ≡ Some z → at (put next.partial e y) g ≡ Some z
      kept g z i = elim (cases_eq g e) [
        | inl s ↦ absurd (never (at next.partial e) z (subst (λ (n : ℕ). at next.partial n ≡ Some z) s i) awaited.unbound)
        | inr o ↦ put_other next.partial e g y o ∙ i
      ]

  -- where it can't be bound to y, nothing comes of that
  pub unbound_with : (y : Entry Sym) → (CanBe plan (put next.partial e y) → ⊥) → AreDecidedWith plan focus history x since until parent next l rest e (y ∷ []) []
  unbound_with y cannot pool entries now later over way = (
    record {
      distinct = tt;
      sound = λ b i. absurd i;
      complete = λ z b i d.
          let h : DecidesWith (levels_in plan focus) (IsOpenAt plan focus pool entries until) l rest next.partial e y b = subst (λ (t : Entry Sym). DecidesWith (levels_in plan focus) (IsOpenAt plan focus pool entries until) l rest next.partial e t b) (only z i) d in
          cannot (beginnings_can_be plan (levels_in plan focus) pool entries until (put next.partial e y) b (h.0).part (h.0).len h.1);
    },
    tt,
  )
    where
      only : (z : Entry Sym) → IsIn z (y ∷ []) → z ≡ y
      only z (inl s) = s
      only z (inr none) = absurd none

  -- what comes where it is bound to y
  pub bound_with : (y : Entry Sym) (f : InstanceState) (out : List InstanceState) → ((pool entries : List (Entry Sym)) → IsNow plan focus history x since pool entries → IsIn y pool) → f.partial ≡ put next.partial e y → IsDecided plan focus history x since until parent f l rest out → AreDecidedWith plan focus history x since until parent next l rest e (y ∷ []) out
  bound_with y f out there is decided pool entries now later over way =
      let h = decided pool entries now later over (way_on pool y (there pool entries now) f is way) in (
        record {
          distinct = (h.0).distinct;
          sound = λ b i. let r = (h.0).sound b i in (y, inl refl, subst (λ (t : Partial Sym). Decides (levels_in plan focus) (IsOpenAt plan focus pool entries until) l rest t b) (only (f.partial) r.0 r.1 ∙ is) r.2);
          complete = λ z b i d. elim i [
            | inl s ↦ (h.0).complete f.partial b (inl refl) (subst (λ (t : Partial Sym). Decides (levels_in plan focus) (IsOpenAt plan focus pool entries until) l rest t b) (sym is) (subst (λ (t : Entry Sym). DecidesWith (levels_in plan focus) (IsOpenAt plan focus pool entries until) l rest next.partial e t b) s d))
            | inr none ↦ absurd none
          ];
        },
        h.1,
      )
    where
      only : (a z : Partial Sym) → IsIn z (a ∷ []) → z ≡ a
      only a z (inl s) = s
      only a z (inr none) = absurd none

  -- no entry was gone through
  pub none_with : AreDecidedWith plan focus history x since until parent next l rest e [] []
  none_with pool entries now later over way = (image_none _, tt)

  -- one more entry was
  pub more_with : (ys : List (Entry Sym)) (y : Entry Sym) (out new : List InstanceState) → (IsIn y ys → ⊥) → AreDecidedWith plan focus history x since until parent next l rest e ys out → AreDecidedWith plan focus history x since until parent next l rest e (y ∷ []) new → AreDecidedWith plan focus history x since until parent next l rest e (ys ++ y ∷ []) (out ++ new)
  more_with ys y out new fresh h k pool entries now later over way =
      let a = h pool entries now later over way in
      let b = k pool entries now later over way in (
        subst (λ (t : List (Partial Sym)). IsImage (DecidesWith (levels_in plan focus) (IsOpenAt plan focus pool entries until) l rest next.partial e) (ys ++ y ∷ []) t) (sym (map-append (λ (i : InstanceState). i.partial) out new))
            (with_one_more (levels_in plan focus) (IsOpenAt plan focus pool entries until) l rest next.partial e awaited.within ys y (parts out) (parts new) fresh a.0 (record {
              distinct = (b.0).distinct;
              sound = λ c i. let r = (b.0).sound c i in (put next.partial e y, inl refl, subst (λ (t : Entry Sym). DecidesWith (levels_in plan focus) (IsOpenAt plan focus pool entries until) l rest next.partial e t c) (only y r.0 r.1) r.2);
              complete = λ z c i d. (b.0).complete y c (inl refl) (subst (λ (t : Partial Sym). Decides (levels_in plan focus) (IsOpenAt plan focus pool entries until) l rest t c) (only_part z i) d);
            })),
        all_append (IsOver plan focus pool entries until) out new a.1 b.1,
      )
    where
      only : (p q : Entry Sym) → IsIn q (p ∷ []) → q ≡ p
      only p q (inl s) = s
      only p q (inr none) = absurd none

      only_part : (z : Partial Sym) → IsIn z (put next.partial e y ∷ []) → z ≡ put next.partial e y
      only_part z (inl s) = s
      only_part z (inr none) = absurd none

  -- what is open beyond it binds the event to a candidate
  pub enough_at : focus ≡ true → (pool entries : List (Entry Sym)) → IsNow plan focus history x since pool entries → IsOnTheWay plan focus pool x parent next → (given : List (Entry Sym)) (name : Sym) (known : List (Option Sym)) → ((def : EventDef Sym) → slice_get (chronicle plan).events e ≡ Some def → (def.pattern.name ≡ name) × AreTold (look_of next.binding) def.pattern.terms known)
      → ((y : Entry Sym) → IsIn y history.entries → IsHeldFor history.floor name (window_at next.windows e) y → HaveKnown known y.args → IsIn y given)
      → (y : Entry Sym) (b : Partial Sym) → Decides (levels_in plan focus) (IsOpenAt plan focus pool entries until) l (rest ++ e ∷ []) next.partial b → at b e ≡ Some y → IsIn y given
  enough_at read pool entries now way given name known told enough y b dec is =
      let d = subst (λ (p : List (Entry Sym)). Decides (levels_in plan focus) (IsOpenAt plan focus p entries until) l (rest ++ e ∷ []) next.partial b) (now.whole read) dec in
      let v = event_there in
      let fit = candidates_fit plan next (levels_in plan focus) entries entries until b e y v.0 proper of (d.0).part d.1 v.1 is in
      let has_x : at b (way.bound).0 ≡ Some x = (d.0).part (way.bound).0 x (way.bound).1 in
      let floor = dated_from_floor plan proper (levels_in plan focus) entries entries until since b d.1 (way.bound).0 x has_x now.early e y is history.floor now.read.far in
      let held = history_holds plan proper (levels_in plan focus) entries entries until since b d.1 (way.bound).0 x has_x now.early e y is history now.read.kept now.read.far in
      let more : Looser (look_of next.binding) (d.1).look = less_binds plan next b (d.1).look of (d.0).part (d.1).partial.binding.equal in
      let equals : PatternIs (d.1).look v.0.pattern y = of_some (at b e) y _ is (of_some (slice_get (chronicle plan).events e) v.0 _ v.1 ((d.1).partial.binding.equal e)) in
      let has : HaveKnown known y.args = have_told (look_of next.binding) (d.1).look v.0.pattern.terms known y.args (told v.0 v.1).1 more equals.terms in
      enough y held (record { named = sym fit.0 ∙ (told v.0 v.1).0; kept = floor; not_soon = (fit.1).not_soon; not_late = (fit.1).not_late }) has

  -- both: bound to each of the candidates, and left
  pub decided_both : (at_all : List InstanceState) (left : List InstanceState) → IsDecidedAt plan focus history x since until parent next l rest e at_all → IsDecided plan focus history x since until parent next l rest left → IsDecided plan focus history x since until parent next l (rest ++ e ∷ []) (at_all ++ left)
  decided_both at_all left h k pool entries now later over way =
      let a = h.decided pool entries now later over way in
      let b = k pool entries now later over way in (
        subst (λ (t : List (Partial Sym)). IsImage (Decides (levels_in plan focus) (IsOpenAt plan focus pool entries until) l (rest ++ e ∷ [])) (next.partial ∷ []) t) (sym (map-append (λ (i : InstanceState). i.partial) at_all left))
            (decided_one (levels_in plan focus) (IsOpenAt plan focus pool entries until) l rest next.partial e awaited.within (rest ++ e ∷ []) awaited.unbound (last_level (levels_in plan focus) next.partial l rest e todo)
            (in_append_right rest (e ∷ []) e (inl refl)) (λ f i. in_append_left rest (e ∷ []) f i) (others_of (levels_in plan focus) next.partial l rest e todo) (last_apart (levels_in plan focus) next.partial l rest e todo)
            h.ys (parts at_all) (parts left) (λ y c d i. h.enough pool entries now way y c d i) a.0 b.0),
        all_append (IsOver plan focus pool entries until) at_all left a.1 b.1,
      )

  -- where it can't be left, nothing comes of that
  above : (o : Option ℤ) (t : ℤ) → (IfSome o (λ m. pos until ≤ℤ m) → ⊥) → IfSome o (λ m. t ≤ℤ m) → pos until ≤ℤ t → ⊥
  above None t never le up = never tt
  above (Some m) t never le up = never (omega (arith, ints))

  pub never_decided : (IfSome (window_at next.windows e).most (λ m. pos until ≤ℤ m) → ⊥) → IsDecided plan focus history x since until parent next l rest []
  never_decided never pool entries now later over way = (
    never_left (levels_in plan focus) (IsOpenAt plan focus pool entries until) l rest next.partial e awaited.within (rest ++ e ∷ []) awaited.unbound (last_level (levels_in plan focus) next.partial l rest e todo)
        (in_append_right rest (e ∷ []) e (inl refl)) (λ f i. in_append_left rest (e ∷ []) f i) (others_of (levels_in plan focus) next.partial l rest e todo) (last_apart (levels_in plan focus) next.partial l rest e todo)
        (λ b d n.
        let open_b = d.1 in
        let t = open_b.dates in
        let inside : e < plan.network.points = (let w = awaited.within in let s = of.len in let p = proper.points in omega arith) in
        let late = of.most e inside in
        above (window_at next.windows e).most (t.0 e) never
        (below (window_at next.windows e).most (t.0) late (agrees_part next.partial b (t.0) (d.0).part t.1) t.2)
        (t.3 e (record {
          within = let w = awaited.within in let q = (d.0).len in omega arith;
          unbound = n;
          least = λ g m u. awaited.least g (let q = (d.0).len in omega arith) (free_back b (d.0).part g u);
        }))),
    tt,
  )
    where
      below : (o : Option ℤ) (t : ℕ → ℤ) → IsLatest plan.chronicle.bounds (dates_of next.partial) e o → Agrees (dates_of next.partial) t → Meets plan.chronicle.bounds t → IfSome o (λ m. t e ≤ℤ m)
      below None t h a m = tt
      below (Some v) t h a m = h.0 t a m

      free_back : (b : Partial Sym) → Extends next.partial b → (g : ℕ) → at b g ≡ None → at next.partial g ≡ None
      free_back b part g u = elim (cases_of (at next.partial g)) [ inl k ↦ k | inr y ↦ absurd (never_both (at b g) y.0 (part g y.0 y.1) u) ]
        where
          never_both : (o : Option (Entry Sym)) (y : Entry Sym) → o ≡ Some y → o ≡ None → ⊥
          never_both o y s n = cc

-- ---- the candidates, one after another

-- the next isn't one of those before
pub fresh_next : (done : List (Entry Sym)) (y : Entry Sym) (left all : List (Entry Sym)) → all ≡ done ++ y ∷ left → IsInKeyOrder all → IsIn y done → ⊥
fresh_next done y left all split order i = by done (subst IsInKeyOrder split order) i
  where
    never : (o : Ordering) → o ≡ ordering_reverse o → o ≡ Less → ⊥
    never Less a b = cc
    never Equal a b = cc
    never Greater a b = cc

    by : (ds : List (Entry Sym)) → IsInKeyOrder (ds ++ y ∷ left) → IsIn y ds → ⊥
    by [] o k = k
    by (d ∷ ds) o (inl s) =
        let l : entry_cmp d y ≡ Less = in_from_each (λ t. entry_cmp d t ≡ Less) (ds ++ y ∷ left) o.0 y (in_append_right ds (y ∷ left) y (inl refl)) in
        never (entry_cmp y y) (entry_total.antisymm y y) (subst (λ (t : Entry Sym). entry_cmp t y ≡ Less) (sym s) l)
    by (d ∷ ds) o (inr k) = by ds o.1 k

-- the event itself
event_is : (plan : Plan) (e : ℕ) (events : List CodeEvent) → events ≡ plan.chronicle.events → e < length plan.chronicle.events → (v : CodeEvent) (def : EventDef Sym) → slice_get (chronicle plan).events e ≡ Some def → def ≡ event_of (get_or events e v)
event_is plan e events same inside v def there = one (sym there ∙ event_as events plan.chronicle.events e v same inside)
  where
    one : {a b : EventDef Sym} → Some a ≡ Some b → a ≡ b
    one s = cc

-- the name of the event's pattern
pub named_as : (plan : Plan) (e : ℕ) (events : List CodeEvent) → events ≡ plan.chronicle.events → e < length plan.chronicle.events → (v : CodeEvent) (def : EventDef Sym) → slice_get (chronicle plan).events e ≡ Some def → def.pattern.name ≡ (get_or events e v).pattern.name
named_as plan e events same inside v def there = ap (λ (d : EventDef Sym). d.pattern.name) (event_is plan e events same inside v def there)

-- the event's name, and what is told of its pattern's terms
pub told_as : (plan : Plan) (e : ℕ) (events : List CodeEvent) → events ≡ plan.chronicle.events → e < length plan.chronicle.events → (v : CodeEvent) (look : ℕ → Option Sym) (known : List (Option Sym)) (def : EventDef Sym)
    → slice_get (chronicle plan).events e ≡ Some def → AreTold look (event_of (get_or events e v)).pattern.terms known → (def.pattern.name ≡ (get_or events e v).pattern.name) × AreTold look def.pattern.terms known
told_as plan e events same inside v look known def there told =
    let is = event_is plan e events same inside v def there in
    (ap (λ (d : EventDef Sym). d.pattern.name) is, subst (λ (d : EventDef Sym). AreTold look d.pattern.terms known) (sym is) told)

-- what came of those that aren't left
pub record IsGoneThrough (plan : Plan) (focus : Bool) (history : HistoryState) (x : Entry Sym) (since until : ℕ) (parent next : InstanceState) (l : ℕ) (rest : List ℕ) (e : ℕ) (start : List InstanceState) (given left : List (Entry Sym)) (now : List InstanceState) : Type 0 where
  pub done : List (Entry Sym)
  pub split : given ≡ done ++ left
  pub adds : Adds plan focus until (AreDecidedWith plan focus history x since until parent next l rest e done) start now

-- ---- all events of a level were decided on

module _ (plan : Plan) (focus : Bool) (history : HistoryState) (x : Entry Sym) (since until : ℕ) (parent next : InstanceState) (l : ℕ) where
  pub ended : IsNoLevelAbove (levels_in plan focus) next.partial l → (out : List InstanceState) → IsKeptIfAble plan focus history x since until parent next out → IsDecided plan focus history x since until parent next l [] out
  ended ends out kept pool entries now later over way =
      let k = kept pool entries now later over way in
      (decided_end (levels_in plan focus) (IsOpenAt plan focus pool entries until) (λ b o. o.closed) l next.partial ends (parts out) k.0, k.1)

  pub gone_up : (m : ℕ) → IsLevelAbove (levels_in plan focus) next.partial l m → (n : ℕ) → n ≡ length next.partial → (todo : List ℕ) → AreAwaited (levels_in plan focus) next.partial n todo → (out : List InstanceState) → IsDecided plan focus history x since until parent next m todo out → IsDecided plan focus history x since until parent next l [] out
  gone_up m above n long todo are out decided pool entries now later over way =
      let k = decided pool entries now later over way in
      let c = above.current in (
        decided_up (levels_in plan focus) (IsOpenAt plan focus pool entries until) (λ b o. o.closed) l next.partial m todo above.above
            (λ f i. same f (are.each f i))
            (λ f i u. let q = (c.1).least f i u in let s = c.2 in omega arith)
            (λ f i u s. are.all f (omega (arith, long)) (record { within = i; unbound = u; least = λ g j v. let q = (c.1).least g j v in let r = c.2 in omega arith }))
            (parts out) k.0,
        k.1,
      )
    where
      same : (f : ℕ) → IsAwaited (levels_in plan focus) next.partial f → levels_in plan focus f ≡ m
      same f w =
          let c = above.current in
          let up = w.least c.0 (c.1).within (c.1).unbound in
          let down = (c.1).least f w.within w.unbound in
          let s = c.2 in omega arith

  -- the awaited events are to be decided on
  pub to_decide : (m : ℕ) → IsLevelAbove (levels_in plan focus) next.partial l m → (n : ℕ) → n ≤ 16 → (todo : List ℕ) → AreAwaited (levels_in plan focus) next.partial n todo → AreToDecide (levels_in plan focus) next.partial m todo
  to_decide m above n small todo are = record {
    awaited = are.each;
    same = λ f i.
        let w = are.each f i in
        let c = above.current in
        let up = w.least c.0 (c.1).within (c.1).unbound in
        let down = (c.1).least f w.within w.unbound in
        let s = c.2 in omega arith;
    apart = are.apart;
    few = let k = are.few in omega arith;
  }

-- no level is above another where none are read
pub none_above : (plan : Plan) (focus : Bool) (a : Partial Sym) (l m : ℕ) → IsLevelAbove (levels_in plan focus) a l m → focus ≡ false → ⊥
none_above plan true a l m above flat = cc
none_above plan false a l m above flat = let c = above.current in let s = c.2 in let u = above.above in omega (arith, s)

some_unbound : (a : Partial Sym) → ((f : ℕ) × (f < length a) × (at a f ≡ None)) ⊎ ((f : ℕ) → f < length a → at a f ≡ None → ⊥)
some_unbound [] = inr (λ f l n. absurd (omega (arith, l)))
some_unbound (None ∷ a) = inl (0, omega arith, refl)
some_unbound (Some x ∷ a) = elim (some_unbound a) [ inl u ↦ inl (suc u.0, omega (arith, u.1), u.2) | inr none ↦ inr (λ f l n. not_here none f l n) ]
  where
    not_here : ((f : ℕ) → f < length a → at a f ≡ None → ⊥) → (f : ℕ) → f < suc (length a) → at (Some x ∷ a) f ≡ None → ⊥
    not_here none ℕ.zero l n = cc
    not_here none (suc f) l n = none f (omega (arith, l)) n

pub flat_ends : (plan : Plan) (focus : Bool) (a : Partial Sym) (l : ℕ) → focus ≡ false → IsNoLevelAbove (levels_in plan focus) a l
flat_ends plan true a l flat = cc
flat_ends plan false a l flat = elim (some_unbound a) [ inl u ↦ inl (u.0, record { within = u.1; unbound = u.2; least = λ g m n. omega arith }, omega arith) | inr none ↦ inr none ]

-- ---- where it starts

module _ (plan : Plan) (focus : Bool) (history : HistoryState) (x : Entry Sym) (since until : ℕ) (i : InstanceState) (e : ℕ) where
  pub unawaited : (IsAwaited (levels_in plan focus) i.partial e → ⊥) → AreForksAt plan focus history x since until i e []
  unawaited never pool entries now later over = (
    record { distinct = tt; sound = λ b k. absurd k; complete = λ f b k s. elim k [ inl q ↦ never (subst (IsAwaited (levels_in plan focus) i.partial) q s.0) | inr none ↦ absurd none ] },
    tt,
  )

  at_it : (f : ℕ) (b : Partial Sym) (pool entries : List (Entry Sym)) → f ≡ e → StartsAt (levels_in plan focus) (IsOpenAt plan focus pool entries until) x i.partial f b → StartsAt (levels_in plan focus) (IsOpenAt plan focus pool entries until) x i.partial e b
  at_it f b pool entries q s = subst (λ (n : ℕ). StartsAt (levels_in plan focus) (IsOpenAt plan focus pool entries until) x i.partial n b) q s

  pub unforked : (CanBe plan (put i.partial e x) → ⊥) → AreForksAt plan focus history x since until i e []
  unforked cannot pool entries now later over = (
    record {
      distinct = tt;
      sound = λ b k. absurd k;
      complete = λ f b k s. elim k [
        | inl q ↦ (let t = at_it f b pool entries q s in cannot (beginnings_can_be plan (levels_in plan focus) pool entries until (put i.partial e x) b (t.1).part (t.1).len t.2))
        | inr none ↦ absurd none
      ];
    },
    tt,
  )

  -- where another event of its level comes too late beside it, nothing comes of it
  pub too_late : IsAwaited (levels_in plan focus) i.partial e → AnotherIsLate plan (levels_in plan focus) i.partial e x.date until → AreForksAt plan focus history x since until i e []
  too_late awaited late pool entries now later over = (
    record {
      distinct = tt;
      sound = λ b k. absurd k;
      complete = λ f b k s. elim k [
        | inl q ↦ lost b (at_it f b pool entries q s)
        | inr none ↦ absurd none
      ];
    },
    tt,
  )
    where
      never : (o : Option (Entry Sym)) (y : Entry Sym) → o ≡ Some y → o ≡ None → ⊥
      never o y s n = cc

      back : (b : Partial Sym) → StartsAt (levels_in plan focus) (IsOpenAt plan focus pool entries until) x i.partial e b → (f : ℕ) → at b f ≡ None → at i.partial f ≡ None
      back b t f u = elim (cases_of (at i.partial f)) [
        | inl n ↦ n
        | inr y ↦ elim (cases_eq f e) [
          | inl s ↦ absurd (never (at i.partial e) y.0 (subst (λ (n : ℕ). at i.partial n ≡ Some y.0) s y.1) awaited.unbound)
          | inr o ↦ absurd (never (at b f) y.0 ((t.1).part f y.0 (put_other i.partial e f x o ∙ y.1)) u)
        ]
      ]

      free : (b : Partial Sym) → StartsAt (levels_in plan focus) (IsOpenAt plan focus pool entries until) x i.partial e b → at b late.0 ≡ None
      free b t = elim (cases_of (at b late.0)) [
        | inl n ↦ n
        | inr y ↦
            let higher = (t.1).beyond late.0 y.0 (put_other i.partial e late.0 x (late.1).apart ∙ (late.1).unbound) y.1 in
            let s = (late.1).same_level in absurd (omega arith)
      ]

      lost : (b : Partial Sym) → StartsAt (levels_in plan focus) (IsOpenAt plan focus pool entries until) x i.partial e b → ⊥
      lost b t = late.2 x b refl (λ f y j. (t.1).part f y j) (record {
        within = let w = (late.1).within in let q = length-set i.partial e (Some x) in let r = (t.1).len in omega arith;
        unbound = free b t;
        least = λ f w u.
            let q = length-set i.partial e (Some x) in
            let r = (t.1).len in
            let low = awaited.least f (omega arith) (back b t f u) in
            let s = (late.1).same_level in omega arith;
      }) (t.2).dates

  module _ (awaited : IsAwaited (levels_in plan focus) i.partial e) (f : InstanceState) (is : f.partial ≡ put i.partial e x) where
    on_the_way : (pool entries : List (Entry Sym)) → IsNow plan focus history x since pool entries → IsOver plan focus pool entries since i → IsOnTheWay plan focus pool x i f
    on_the_way pool entries now over = record {
      has = λ g z j. subst (λ (t : Partial Sym). at t g ≡ Some z) (sym is) (elim (cases_eq g e) [
        | inl s ↦ absurd (never (at i.partial e) z (subst (λ (n : ℕ). at i.partial n ≡ Some z) s j) awaited.unbound)
        | inr o ↦ put_other i.partial e g x o ∙ j
      ]);
      given = λ g z j. elim (cases_eq g e) [
        | inl s ↦ subst (λ (t : Entry Sym). IsIn t pool) (one (sym (put_same i.partial e x awaited.within) ∙ subst (λ (n : ℕ). at (put i.partial e x) n ≡ Some z) s (subst (λ (t : Partial Sym). at t g ≡ Some z) is j))) now.there
        | inr o ↦ over.given g z (sym (put_other i.partial e g x o) ∙ subst (λ (t : Partial Sym). at t g ≡ Some z) is j)
      ];
      bound = (e, ap (λ (t : Partial Sym). at t e) is ∙ put_same i.partial e x awaited.within);
      closed = subst (IsLevelClosed (levels_in plan focus)) (sym is) (put_closed (levels_in plan focus) i.partial e x awaited over.closed);
    }
      where
        one : {p q : Entry Sym} → Some p ≡ Some q → p ≡ q
        one s = cc

        never : (o : Option (Entry Sym)) (z : Entry Sym) → o ≡ Some z → o ≡ None → ⊥
        never o z s n = cc

    pub started : (out : List InstanceState) → IsDecided plan focus history x since until i f (levels_in plan focus e) [] out → AreForksAt plan focus history x since until i e out
    started out decided pool entries now later over =
        let k = decided pool entries now later over (on_the_way pool entries now over) in (
          decided_start (levels_in plan focus) (IsOpenAt plan focus pool entries until) x i.partial e (parts out) awaited
              (subst (λ (t : Partial Sym). IsImage (Decides (levels_in plan focus) (IsOpenAt plan focus pool entries until) (levels_in plan focus e) []) (t ∷ []) (parts out)) is k.0),
          k.1,
        )
