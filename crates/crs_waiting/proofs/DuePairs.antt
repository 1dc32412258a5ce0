-- The pairs of a calendar: as due dates are put in, and as what is due is collected.
use Rattle.std.proofs.Common.{Bool, ◌≡◌, ℕ, ◌≤◌, ◌<◌, ◌+◌, ◌^◌, List, ◌∷◌, length, sym, ap, subst, ◌∙◌, arith, inl, inr}
use Rattle.std.specs.Prelude.{ℤ, pos, ◌+ℤ◌, ◌≤ℤ◌, Option, Some, None, IsSomeAnd, OnOk, OnErr, Result, slice_get, All}
use Rattle.std.specs.List.Sorted.{IsPermutation}
use Rattle.std.proofs.lemmas.Bool.{cases_lt}
use Rattle.std.proofs.lemmas.Int.{ints}
use Rattle.std.proofs.lemmas.List.{length-map}
use Rattle.std.proofs.lemmas.List.Elements.{recursion_from_All}
use Rattle.std.proofs.lemmas.Result.{on_ok_weaker}
use Rattle.crs_base.specs.declared.symbols.Sym.{Sym}
use Rattle.crs_base.specs.Words.{IsIn}
use Rattle.crs_base.proofs.Words.{in_from_each}
use Rattle.crs_agenda.specs.declared.timed.Handle.{Handle}
use Rattle.crs_agenda.specs.declared.timed.Timed.{Timed}
use Rattle.crs_agenda.specs.Schedule.{Schedule}
use Rattle.crs_history.proofs.Trying.{by_result}
use Rattle.crs_model.specs.declared.plan.Plan.{Plan}
use Rattle.crs_model.specs.declared.progress.Stretch.{Stretch}
use Rattle.crs_model.specs.declared.chronicle.Body.{Body as CodeBody}
use Rattle.crs_model.specs.declared.chronicle.Body.TheVariants.{NoEvent, Occurs, Hold}
use Rattle.crs_model.specs.Models.{Window}
use Rattle.crs_model.specs.Bindings.{look_of}
use Rattle.crs_model.specs.Verdicts.{IsStretch, BodyIsBound}
use Rattle.crs_model.specs.Plans.{chronicle}
use Rattle.crs_model.specs.SeenModels.{body_of, window_of}
use Rattle.crs_model.proofs.Options.{of_some, and_some, get_within}
use Rattle.crs_model.proofs.Opened.{same_stretch}
use Rattle.crs_instance.specs.Instances.{InstanceState, IsDeadline, window_at}
use Rattle.crs_instance.specs.Followed.{IsStretchAt}
use Rattle.crs_instance.specs.CurrentLevel.{IsCurrentLevel}
use Rattle.crs_model.specs.Partial.{Partial}
use Rattle.crs_focus.specs.PlanLevels.{levels_in, IsLastOf, IsLastDate}
use Rattle.crs_waiting.specs.Dues.{IsStart, IsDueFor, IsFirstOf, IsUndue, StandsAtEach, StandsAround, AreDue, AreKept, AreCollected, HasPlaces}
use Rattle.crs_waiting.proofs.Moved.{moved_in}

-- ---- one date

module _ {T E : Type 0} (r : Result T E) (date : ℤ) (n : ℕ) (handle : Handle) (old new : List Timed) where
  abbrev dated : ℕ → Timed
  dated d = record { date = d; handle = handle }

  pub put_in : ((t : ℕ) → pos t ≡ date → n ≡ t) → (since : ℕ) → OnOk r (IsPermutation (dated n ∷ old) new) → OnOk r (StandsAtEach (λ t. pos t ≡ date) handle since new)
  put_in is since h = on_ok_weaker r (λ p t e l m. moved_in (dated n ∷ old) new p (dated t) (inl (ap dated (sym (is t e))))) h

pub put_keeps : {T E : Type 0} (r : Result T E) (x : Timed) (old new : Schedule) → OnOk r (IsPermutation (x ∷ old.pairs) new.pairs) → OnErr r (new ≡ old) → AreKept old.pairs new.pairs
put_keeps r x old new h k = by_result r h k (λ p t i. moved_in _ _ p t (inr i)) (λ e t i. subst (λ (s : Schedule). IsIn t s.pairs) (sym e) i)

-- ---- the dates of an instance

-- there is one deadline at most
pub one_deadline : (level : ℕ → ℕ) (n : ℕ) (i : InstanceState) (o : Option ℤ) (d : ℤ) → IsDeadline level n i o → IsDeadline level n i (Some d) → o ≡ Some d
one_deadline level n i None d h k = absurd (none_some (window_at i.windows k.1).most d (h k.1 k.2 k.3 k.4) k.5)
  where
    none_some : (o : Option ℤ) (d : ℤ) → o ≡ None → o ≡ Some d → ⊥
    none_some o d e f = cc
one_deadline level n i (Some a) d h k = ap Some (both (of_some (window_at i.windows k.1).most d _ k.5 (h.0 k.1 k.2 k.3 k.4)) (of_some (window_at i.windows h.1).most a _ h.5 (k.0 h.1 h.2 h.3 h.4)))
  where
    both : {a d : ℤ} → a ≤ℤ d → d ≤ℤ a → a ≡ d
    both l m = omega (arith, ints)

pub its_deadline : (level : ℕ → ℕ) (n : ℕ) (i : InstanceState) (o : Option ℤ) (a d : ℤ) → o ≡ Some a → IsDeadline level n i o → IsDeadline level n i (Some d) → d ≡ a
its_deadline level n i o a d e h k = same (sym (one_deadline level n i o d h k) ∙ e)
  where
    same : {a b : ℤ} → Some a ≡ Some b → a ≡ b
    same e = cc

-- there is one level at most that it waits for
same_current : (level : ℕ → ℕ) (a : Partial Sym) (m n : ℕ) → IsCurrentLevel level a (Some m) → IsCurrentLevel level a (Some n) → m ≡ n
same_current level a m n c d =
    let up = (c.1).least d.0 (d.1).within (d.1).unbound in
    let down = (d.1).least c.0 (c.1).within (c.1).unbound in
    let s = c.2 in
    let t = d.2 in omega arith

-- and one last date
pub last_is : (plan : Plan) (focus : Bool) (i : InstanceState) (o : Option ℤ) (a : ℤ) (t : ℕ) → o ≡ Some a → IsLastOf plan focus i o → IsLastDate plan focus i t → pos t ≡ a
last_is plan focus i o a t e (inl h) k = its_deadline (levels_in plan focus) k.0 i o a (pos t) e
    (subst (λ (n : ℕ). IsDeadline (levels_in plan focus) n i o) (same_current (levels_in plan focus) i.partial h.0 k.0 h.1 k.1) h.2) k.2
last_is plan focus i o a t e (inr h) k = let c = k.1 in absurd (h.0 c.0 (c.1).within (c.1).unbound)

pub start_is : (body : CodeBody) (from to : ℤ) (t : ℕ) → IsStart (body_of body) from to t → pos t ≡ from
start_is (NoEvent p) from to t s = absurd s
start_is (Occurs least most p) from to t s = absurd s
start_is (Hold name terms value) from to t s = s.1

-- a window that hasn't begun has no due date
pub unbegun_undue : (plan : Plan) (i : InstanceState) (k : ℕ) (o : Option Stretch) → o ≡ None → IsStretchAt plan i k o → (t : ℕ) → IsDueFor plan i k t → ⊥
unbegun_undue plan i k o e h t due =
    let w = and_some (slice_get (chronicle plan).windows k) _ due in
    let r = w.2 in
    of_some (slice_get (chronicle plan).windows k) w.0 _ w.1 (subst (IsStretchAt plan i k) e h) r.0 r.1 r.2 r.3

module _ (plan : Plan) (i : InstanceState) (handle : Handle) (since : ℕ) where
  pub still_in : (Is : ℕ → Type 0) (old new : List Timed) → AreKept old new → StandsAtEach Is handle since old → StandsAtEach Is handle since new
  still_in Is old new kept put t s l m = kept _ (put t s l m)

  pub window_put : (k : ℕ) (w : Window Sym) → slice_get (chronicle plan).windows k ≡ Some w → (s : Stretch) (o : Option Stretch) → o ≡ Some s → IsStretchAt plan i k o → (new : List Timed)
      → StandsAround s handle since new → StandsAtEach (IsStart w.body s.from s.to) handle since new → StandsAtEach (IsDueFor plan i k) handle since new
  window_put k w is s o e h new around starts t due l m =
      let st : IsStretch i.partial w s.from s.to × BodyIsBound (look_of i.binding) w.body = of_some (slice_get (chronicle plan).windows k) w _ is (subst (IsStretchAt plan i k) e h) in
      let r = of_and (slice_get (chronicle plan).windows k) w _ is due in
      let same = same_stretch i.partial i.partial w s.from s.to r.0 r.1 (λ f x j. j) st.0 r.2 in
      elim r.4 [
        | inl a ↦ around.last t (a ∙ sym same.1) l m
        | inr b ↦ elim b [
          | inl b ↦ starts t (subst (λ (z : ℤ). IsStart w.body z s.to t) (sym same.0) (subst (λ (z : ℤ). IsStart w.body r.0 z t) (sym same.1) b)) l m
          | inr b ↦ around.near t (b.1 ∙ sym same.0) l m
        ]
      ]
    where
      of_and : {A : Type 0} (o : Option A) (x : A) (P : A → Type 0) → o ≡ Some x → IsSomeAnd o P → P x
      of_and None x P e h = absurd h
      of_and {A} (Some y) x P e h = let q : y ≡ x = cc in subst P q h

  -- of a window: two dates before it begins, at its end, and all stays between
  pub around : (s : Stretch) (first mid new : List Timed) → StandsAtEach (λ t. (pos t +ℤ pos 2) ≡ s.from) handle since first → AreKept first mid → AreKept mid new → StandsAtEach (λ t. (pos t +ℤ pos 1) ≡ s.to) handle since new → StandsAround s handle since new
  around s first mid new near kept more last = record { near = λ t e l m. more _ (kept _ (near t e l m)); last = last }

  -- around a stretch that begins and ends at 0 there is no date
  pub around_none : (s : Stretch) → s.from ≡ pos 0 → s.to ≡ pos 0 → (pairs : List Timed) → StandsAround s handle since pairs
  around_none s from to pairs = record { near = λ t e l m. absurd (never 2 t s.from (omega arith) e from); last = λ t e l m. absurd (never 1 t s.to (omega arith) e to) }
    where
      never : (n t : ℕ) (z : ℤ) → 0 < n → (pos t +ℤ pos n) ≡ z → z ≡ pos 0 → ⊥
      never n t z some e f = omega (arith, ints)

module _ (plan : Plan) (focus : Bool) (i : InstanceState) (handle : Handle) (since : ℕ) where
  -- the pairs of the events below n are in, and the others stay
  pub record AreFirstsTo (n : ℕ) (old new : Schedule) : Type 0 where
    pub below : (e : ℕ) → e < n → StandsAtEach (IsFirstOf plan focus i e) handle since new.pairs
    pub kept : AreKept old.pairs new.pairs
    pub stood : new.date ≡ old.date

  pub firsts_next : (n : ℕ) (old mid new : Schedule) → AreFirstsTo n old mid → StandsAtEach (IsFirstOf plan focus i n) handle since new.pairs → AreKept mid.pairs new.pairs → new.date ≡ mid.date → AreFirstsTo (n + 1) old new
  firsts_next n old mid new p here kept stood = record {
    below = λ e l. elim (cases_lt e n) [ inl m ↦ still_in plan i handle since (IsFirstOf plan focus i e) mid.pairs new.pairs kept (p.below e m) | inr g ↦ subst (λ (j : ℕ). StandsAtEach (IsFirstOf plan focus i j) handle since new.pairs) (omega arith) here ];
    kept = λ t j. kept t (p.kept t j);
    stood = stood ∙ p.stood;
  }

  pub all_firsts : (n : ℕ) (old new : Schedule) → AreFirstsTo n old new → length i.partial ≤ n → (e : ℕ) → StandsAtEach (IsFirstOf plan focus i e) handle since new.pairs
  all_firsts n old new p all e t f l m = p.below e (let a = (f.1).within in omega arith) t f l m

  -- the pairs of the deadline, of the events and of the windows below n are in, and the others stay
  pub record ArePutTo (n : ℕ) (old new : Schedule) : Type 0 where
    pub deadline : StandsAtEach (IsLastDate plan focus i) handle since new.pairs
    pub firsts : (e : ℕ) → StandsAtEach (IsFirstOf plan focus i e) handle since new.pairs
    pub below : (k : ℕ) → k < n → StandsAtEach (IsDueFor plan i k) handle since new.pairs
    pub kept : AreKept old.pairs new.pairs
    pub stood : new.date ≡ old.date

  pub put_start_of : (old new : Schedule) → StandsAtEach (IsLastDate plan focus i) handle since new.pairs → ((e : ℕ) → StandsAtEach (IsFirstOf plan focus i e) handle since new.pairs) → AreKept old.pairs new.pairs → new.date ≡ old.date → ArePutTo 0 old new
  put_start_of old new ends firsts kept stood = record { deadline = ends; firsts = firsts; below = λ k l. absurd (omega arith); kept = kept; stood = stood }

  pub put_next : (n : ℕ) (old mid new : Schedule) → ArePutTo n old mid → StandsAtEach (IsDueFor plan i n) handle since new.pairs → AreKept mid.pairs new.pairs → new.date ≡ mid.date → ArePutTo (n + 1) old new
  put_next n old mid new p here kept stood = record {
    deadline = still_in plan i handle since _ mid.pairs new.pairs kept p.deadline;
    firsts = λ e. still_in plan i handle since (IsFirstOf plan focus i e) mid.pairs new.pairs kept (p.firsts e);
    below = λ k l. elim (cases_lt k n) [ inl m ↦ still_in plan i handle since (IsDueFor plan i k) mid.pairs new.pairs kept (p.below k m) | inr g ↦ subst (λ (j : ℕ). StandsAtEach (IsDueFor plan i j) handle since new.pairs) (omega arith) here ];
    kept = λ t j. kept t (p.kept t j);
    stood = stood ∙ p.stood;
  }

  pub all_put : (n : ℕ) (old new : Schedule) → ArePutTo n old new → length plan.chronicle.windows ≤ n → AreDue plan focus i handle since new.pairs
  all_put n old new p all t (inl d) l m = p.deadline t d l m
  all_put n old new p all t (inr (inr f)) l m = p.firsts f.0 t f.1 l m
  all_put n old new p all t (inr (inl w)) l m = p.below w.0 (inside (and_some (slice_get (chronicle plan).windows w.0) _ w.1)) t w.1 l m
    where
      inside : {P : Window Sym → Type 0} → (v : Window Sym) × (slice_get (chronicle plan).windows w.0 ≡ Some v) × P v → w.0 < n
      inside v = let a = get_within (chronicle plan).windows w.0 v.0 v.1 in let b = length-map plan.chronicle.windows window_of in omega arith

module _ (plan : Plan) (focus : Bool) (i : InstanceState) (handle : Handle) (d : ℕ) (old : List Timed) (due : AreDue plan focus i handle d old) where
  pub dues_later : (e : ℕ) → d ≤ e → AreDue plan focus i handle e old
  dues_later e later t is l m = due t is (omega arith) m

  -- as what is due is collected, where the place isn't among those noted
  module _ (h : ℕ) (new : List Timed) (places : List ℕ) (collected : AreCollected h old new places) (apart : IsIn handle.place places → ⊥) where
    pub dues_left : AreDue plan focus i handle d new
    dues_left t is l m = elim (collected _ (due t is l m)) [ inl j ↦ j | inr j ↦ absurd (apart j.1) ]

    -- then none of its due dates is before h
    pub left_undue : h ≤ 2 ^ 42 → All (λ t. h ≤ t.date) new → IsUndue plan focus i d h
    left_undue early all t is l m = let low = in_from_each (λ (x : Timed). h ≤ x.date) new (recursion_from_All (λ (x : Timed). h ≤ x.date) new all) _ (dues_left t is l (omega arith)) in omega arith

-- ---- places

-- what is taken out has its place noted, and the others stay
pub record IsCollectedTo (h : ℕ) (old : List Timed) (was : List ℕ) (new : Schedule) (places : List ℕ) : Type 0 where
  pub collected : AreCollected h old new.pairs places
  pub noted : HasPlaces was places
  pub within : new.date ≤ h

pub collected_next : (h : ℕ) (old : List Timed) (was : List ℕ) (mid new : Schedule) (places after : List ℕ) (x : Timed) → IsCollectedTo h old was mid places
    → IsPermutation mid.pairs (x ∷ new.pairs) → IsIn x.handle.place after → HasPlaces places after → new.date ≤ h → x.date < h → IsCollectedTo h old was new after
collected_next h old was mid new places after x c p there kept low early = record {
  collected = λ t i. elim (c.collected t i) [
    | inl j ↦ (elim (moved_in _ _ p t j) [ inl e ↦ inr (subst (λ (y : Timed). y.date < h) (sym e) early, subst (λ (q : ℕ). IsIn q after) (sym (ap (λ (s : Timed). s.handle.place) e)) there) | inr k ↦ inl k ])
    | inr j ↦ inr (j.0, kept t.handle.place j.1)
  ];
  noted = λ q i. kept q (c.noted q i);
  within = low;
}
