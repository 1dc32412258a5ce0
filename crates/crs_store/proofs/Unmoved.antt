-- Instances that no entry touches, and for which no date is due, stay as they are judged.
use Rattle.std.proofs.Common.{◌≡◌, ℕ, zero, suc, ◌≤◌, ◌<◌, List, [], ◌∷◌, ◌++◌, length, refl, sym, subst, arith, inl, inr, ◌⊎◌, Bool, true, false}
use Rattle.std.specs.Prelude.{ℤ, pos, negsuc, ◌+ℤ◌, ◌≤ℤ◌, ◌<ℤ◌, Option, Some, None, IfSome, slice_get}
use Rattle.std.proofs.lemmas.Bool.{cases_lt}
use Rattle.std.proofs.lemmas.Int.{ints, by_lt_z}
use Rattle.crs_base.specs.declared.symbols.Sym.{Sym}
use Rattle.crs_base.specs.Entry.{Entry}
use Rattle.crs_base.proofs.Deciding.{sym_tells}
use Rattle.crs_model.specs.declared.plan.Plan.{Plan}
use Rattle.crs_model.specs.Models.{Body, NoEvent, Occurs, Hold, Window}
use Rattle.crs_model.specs.Matching.{Binding}
use Rattle.crs_model.specs.Bindings.{look_of}
use Rattle.crs_model.specs.Partial.{Partial, at, CanGoOn}
use Rattle.crs_model.specs.Plans.{chronicle, IsProper}
use Rattle.crs_model.specs.Verdicts.{IsStretch, BodyIsBound, IsDatedIn}
use Rattle.crs_model.specs.HasProgress.{IsProgress, IsMetBy, IsLostBy, Hits, Spares, StartsWell, StartsIll}
use Rattle.crs_model.proofs.Options.{of_some, some_if, and_some, some_and}
use Rattle.crs_model.proofs.Opened.{same_stretch}
use Rattle.crs_model.proofs.Progressing.{settle_progress, pass_progress, enough_stays}
use Rattle.crs_instance.specs.Instances.{InstanceState, IsOf, IsDeadline, progress_at}
use Rattle.crs_instance.specs.Followed.{Follows}
use Rattle.crs_instance.proofs.Deadline.{deadline_by}
use Rattle.crs_instance.specs.CurrentLevel.{IsCurrentLevel}
use Rattle.crs_instance.proofs.GoesOn.{deadline_tells, whole_goes_on}
use Rattle.crs_waiting.specs.Links.{IsNear}
use Rattle.crs_focus.specs.PlanLevels.{levels_in}
use Rattle.crs_living.specs.Windows.{IsAble}
use Rattle.crs_living.specs.Done.{IsDone, is_whole}
use Rattle.crs_waiting.specs.Dues.{IsStart, IsTurn, IsDue, IsUndue, IsUntouched, AreEnded}
use Rattle.crs_focus.proofs.Awaiting.{current_or_none}
use Rattle.crs_living.proofs.Progress.{each_window}

-- ---- dates that aren't due

end_after : (t : ℕ) → (pos t +ℤ pos 1) ≡ pos (suc t)
end_after t = omega (arith, ints)

two_after : (t : ℕ) → (pos t +ℤ pos 2) ≡ pos (suc (suc t))
two_after t = omega (arith, ints)

-- an end isn't after d, or it is after h
end_apart : (to : ℤ) (d h : ℕ) → ((t : ℕ) → (pos t +ℤ pos 1) ≡ to → d ≤ t → t < h → ⊥) → (to ≤ℤ pos d) ⊎ (pos h <ℤ to)
end_apart (pos zero) d h none = inl (omega (arith, ints))
end_apart (negsuc t) d h none = inl (omega (arith, ints))
end_apart (pos (suc t)) d h none = elim (cases_lt t d) [
  | inl l ↦ inl (omega (arith, ints))
  | inr g ↦ (elim (cases_lt t h) [ inl l ↦ absurd (none t (end_after t) g l) | inr m ↦ inr (omega (arith, ints)) ])
]

-- a start is before d, or it isn't before h
start_apart : (from : ℤ) (d h : ℕ) → ((t : ℕ) → pos t ≡ from → d ≤ t → t < h → ⊥) → (from <ℤ pos d) ⊎ (pos h ≤ℤ from)
start_apart (negsuc t) d h none = inl (omega (arith, ints))
start_apart (pos t) d h none = elim (cases_lt t d) [
  | inl l ↦ inl (omega (arith, ints))
  | inr g ↦ (elim (cases_lt t h) [ inl l ↦ absurd (none t refl g l) | inr m ↦ inr (omega (arith, ints)) ])
]

-- a date is near d, or it isn't near h
near_apart : (from : ℤ) (d h : ℕ) → ((t : ℕ) → (pos t +ℤ pos 2) ≡ from → d ≤ t → t < h → ⊥) → IsNear from d ⊎ (IsNear from h → ⊥)
near_apart (negsuc t) d h none = inl (omega (arith, ints))
near_apart (pos zero) d h none = inl (omega (arith, ints))
near_apart (pos (suc zero)) d h none = inl (omega (arith, ints))
near_apart (pos (suc (suc t))) d h none = elim (cases_lt t d) [
  | inl l ↦ inl (omega (arith, ints))
  | inr g ↦ (elim (cases_lt t h) [ inl l ↦ absurd (none t (two_after t) g l) | inr m ↦ inr (λ near. absurd (omega (arith, ints))) ])
]

-- ---- one window

module _ (look : Binding Sym) (from to : ℤ) where
  module _ (d h : ℕ) (later : d ≤ h) where
    -- no first date is passed, or the body has none
    how_passed : (body : Body Sym) (entries : List (Entry Sym)) (broken : Bool) → ((t : ℕ) → IsStart body from to t → d ≤ t → t < h → ⊥)
        → ((broken ≡ broken) × (((from <ℤ pos d) × (from <ℤ to)) ⊎ ((to ≤ℤ from) ⊎ (pos h ≤ℤ from)) ⊎ StartsWell entries look body from))
        ⊎ ((broken ≡ true) × ((broken ≡ true) ⊎ ((from <ℤ to) × (from <ℤ pos h) × StartsIll entries look body from)))
    how_passed (NoEvent p) entries broken none = inl (refl, inr (inr tt))
    how_passed (Occurs least most p) entries broken none = inl (refl, inr (inr tt))
    how_passed (Hold name terms value) entries broken none = by_lt_z from to
        (λ l. elim (start_apart from d h (λ t e. none t (l, e))) [ inl m ↦ inl (refl, inl (m, l)) | inr m ↦ inl (refl, inr (inl (inr m))) ])
        (λ l. inl (refl, inr (inl (inl l))))

    progress_stays : (body : Body Sym) (entries : List (Entry Sym)) (count : ℕ) (broken : Bool) → ((t : ℕ) → IsStart body from to t → d ≤ t → t < h → ⊥)
        → IsProgress entries look body from to (pos d) count broken → IsProgress entries look body from to (pos h) count broken
    progress_stays body entries count broken none p = pass_progress look from to sym_tells entries d h later body count broken broken p (how_passed body entries broken none)

    not_both : to ≤ℤ pos h → pos h <ℤ to → ⊥
    not_both l m = omega (arith, ints)

    before_too : pos h <ℤ to → pos d <ℤ to
    before_too l = omega (arith, ints)

    lost_before : (body : Body Sym) (count : ℕ) (broken : Bool) → (to ≤ℤ pos d) ⊎ (pos h <ℤ to) → IsLostBy body to (pos h) count broken → IsLostBy body to (pos d) count broken
    lost_before body count broken (inl e) (inl s) = inl (e, s.1)
    lost_before body count broken (inr e) (inl s) = absurd (not_both s.0 e)
    lost_before body count broken e (inr (inl s)) = inr (inl (before_too s.0, s.1))
    lost_before body count broken e (inr (inr s)) = inr (inr s)

    met_before : (body : Body Sym) (count : ℕ) (broken : Bool) → (to ≤ℤ pos d) ⊎ (pos h <ℤ to) → IsMetBy body to (pos h) count broken → IsMetBy body to (pos d) count broken
    met_before body count broken (inl e) m = (e, m.1, m.2)
    met_before body count broken (inr e) m = absurd (not_both m.0 e)

  module _ (x : Entry Sym) (d : ℕ) (late : d ≤ x.date) where
    untouched_progress : (body : Body Sym) (entries : List (Entry Sym)) (count : ℕ) (broken : Bool) → (Hits look body from to x → ⊥) → Spares look body from to x
        → IsProgress entries look body from to (pos d) count broken → IsProgress (entries ++ x ∷ []) look body from to (pos d) count broken
    untouched_progress body entries count broken miss spare p =
        settle_progress look from to entries x d late body count count broken broken p (inr (miss, refl)) (elim (bool_of broken) [ inl b ↦ inl (inl b, b) | inr b ↦ inr (b, spare, b) ])
      where
        bool_of : (b : Bool) → (b ≡ true) ⊎ (b ≡ false)
        bool_of true = inl refl
        bool_of false = inr refl

    undated : to ≤ℤ pos d → IsDatedIn from to x → ⊥
    undated e dated = let l = dated.1 in omega (arith, ints)

    ended_misses : (body : Body Sym) → to ≤ℤ pos d → Hits look body from to x → ⊥
    ended_misses (NoEvent p) e hit = undated e hit.0
    ended_misses (Occurs least most p) e hit = undated e hit.0
    ended_misses (Hold name terms value) e hit = hit

    ended_spares : (body : Body Sym) → to ≤ℤ pos d → Spares look body from to x
    ended_spares (NoEvent p) e = tt
    ended_spares (Occurs least most p) e = tt
    ended_spares (Hold name terms value) e = λ a v is change dated. absurd (undated e dated)

-- ---- an instance

module _ (plan : Plan) (focus : Bool) (i : InstanceState) (d h : ℕ) (undue : IsUndue plan focus i d h) where
  module _ (k : ℕ) (w : Window Sym) (is : slice_get (chronicle plan).windows k ≡ Some w) (from to : ℤ) (stretch : IsStretch i.partial w from to) (bound : BodyIsBound (look_of i.binding) w.body) where
    no_turn : (t : ℕ) → IsTurn w.body from to t → d ≤ t → t < h → ⊥
    no_turn t turn l m = undue t (inr (inl (k, some_and (slice_get (chronicle plan).windows k) _ w is (from, to, stretch, bound, turn)))) l m

    ends_apart : (to ≤ℤ pos d) ⊎ (pos h <ℤ to)
    ends_apart = end_apart to d h (λ t e l m. no_turn t (inl e) l m)

    -- near at h, it was near at d
    pub near_early : from ≤ℤ to → IsNear from h → IsNear from d
    near_early within near = elim (near_apart from d h (λ t e l m. no_turn t (inr (inr (within, e))) l m)) [ inl n ↦ n | inr not ↦ absurd (not near) ]

  module _ (later : d ≤ h) where
    -- the progress of its windows stays as dates pass
    pub undue_follows : (entries : List (Entry Sym)) → Follows plan entries d i → Follows plan entries h i
    undue_follows entries has k = some_if (slice_get (chronicle plan).windows k) _ (λ w is from to stretch bound.
        progress_stays (look_of i.binding) from to d h later w.body entries (progress_at i.progress k).count (progress_at i.progress k).broken (λ t s l m. no_turn k w is from to stretch bound t (inr (inl s)) l m)
        (of_some (slice_get (chronicle plan).windows k) w _ is (has k) from to stretch bound))

    -- done at h, it was done at d
    pub undue_undone : IsDone plan h i → IsDone plan d i
    undue_undone done = (
      done.0,
      λ k l. some_if (slice_get (chronicle plan).windows k) _ (λ w is.
          let m = of_some (slice_get (chronicle plan).windows k) w _ is (done.1 k l) in
          (m.0, m.1, m.2, m.3, met_before (look_of i.binding) m.0 m.1 d h later w.body (progress_at i.progress k).count (progress_at i.progress k).broken (ends_apart k w is m.0 m.1 m.2 m.3) m.4)),
    )

    module _ (proper : IsProper plan) (of : IsOf plan i) where
      deadline_later : (n : ℕ) (o : Option ℤ) → IsCurrentLevel (levels_in plan focus) i.partial (Some n) → IsDeadline (levels_in plan focus) n i o → IfSome o (λ v. pos d ≤ℤ v) → IfSome o (λ v. pos h ≤ℤ v)
      deadline_later n None current is l = tt
      deadline_later n (Some (negsuc t)) current is l = absurd (omega (arith, ints))
      deadline_later n (Some (pos t)) current is l = elim (cases_lt t h) [ inl m ↦ absurd (undue t (inl (n, current, is)) (omega (arith, ints)) m) | inr m ↦ omega (arith, ints) ]

      goes_on_later : CanGoOn (chronicle plan) (levels_in plan focus) i.partial d → CanGoOn (chronicle plan) (levels_in plan focus) i.partial h
      goes_on_later can = elim (current_or_none (levels_in plan focus) i.partial) [
        | inl c ↦
            let is = deadline_by i (levels_in plan focus) c.0 _ refl in
            (deadline_tells plan proper i of (levels_in plan focus) h c.0 _ c.1 is).1
            (deadline_later c.0 _ c.1 is ((deadline_tells plan proper i of (levels_in plan focus) d c.0 _ c.1 is).0 can))
        | inr none ↦ whole_goes_on plan proper i of (levels_in plan focus) h none
      ]

      -- able at d, it is able at h
      pub undue_able : IsAble plan focus d i → IsAble plan focus h i
      undue_able able = (
        goes_on_later able.0,
        λ k. some_if (slice_get (chronicle plan).windows k) _ (λ w is from to stretch bound lost.
            of_some (slice_get (chronicle plan).windows k) w _ is (able.1 k) from to stretch bound
            (lost_before (look_of i.binding) from to d h later w.body (progress_at i.progress k).count (progress_at i.progress k).broken (ends_apart k w is from to stretch bound) lost)),
      )

module _ (plan : Plan) (i : InstanceState) (x : Entry Sym) (d : ℕ) (late : d ≤ x.date) where
  -- the progress of its windows stays as an entry is settled that touches none of them
  pub untouched_follows : (entries : List (Entry Sym)) → IsUntouched plan i x → Follows plan entries d i → Follows plan (entries ++ x ∷ []) d i
  untouched_follows entries untouched has k = some_if (slice_get (chronicle plan).windows k) _ (λ w is from to stretch bound.
      let u = of_some (slice_get (chronicle plan).windows k) w _ is (untouched k) from to stretch bound in
      let was = of_some (slice_get (chronicle plan).windows k) w _ is (has k) from to stretch bound in
      elim u [
        | inl e ↦ enough_stays (look_of i.binding) from to sym_tells w.body entries x (pos d) (progress_at i.progress k).count (progress_at i.progress k).broken e was
        | inr u ↦ untouched_progress (look_of i.binding) from to x d late w.body entries (progress_at i.progress k).count (progress_at i.progress k).broken u.0 u.1 was
      ])

module _ (plan : Plan) (focus : Bool) (i : InstanceState) (d : ℕ) (done : IsDone plan d i) where
  -- the windows of what is done have ended
  pub done_ended : AreEnded plan i d
  done_ended = each_window plan (λ k w. (from to : ℤ) → IsStretch i.partial w from to → BodyIsBound (look_of i.binding) w.body → to ≤ℤ pos d) (λ k l. some_if (slice_get (chronicle plan).windows k) _ (λ w is from to stretch bound.
      let m = of_some (slice_get (chronicle plan).windows k) w _ is (done.1 k l) in
      subst (λ (z : ℤ). z ≤ℤ pos d) (sym (same_stretch i.partial i.partial w from to m.0 m.1 (λ f x j. j) stretch m.2).1) m.4.0))

  none_free : (a : Partial Sym) (e : ℕ) → is_whole a ≡ true → e < length a → at a e ≡ None → ⊥
  none_free [] e full l free = absurd (omega arith)
  none_free (None ∷ a) e full l free = cc
  none_free (Some x ∷ a) zero full l free = cc
  none_free (Some x ∷ a) (suc e) full l free = none_free a e full (omega arith) free

  start_ended : (body : Body Sym) (from to : ℤ) (t : ℕ) → to ≤ℤ pos d → d ≤ t → IsStart body from to t → ⊥
  start_ended (NoEvent p) from to t e l s = s
  start_ended (Occurs least most p) from to t e l s = s
  start_ended (Hold name terms value) from to t e l s = let a = s.0 in let b = s.1 in omega (arith, ints)

  turn_ended : (body : Body Sym) (from to : ℤ) (t : ℕ) → to ≤ℤ pos d → d ≤ t → IsTurn body from to t → ⊥
  turn_ended body from to t e l (inl s) = omega (arith, ints)
  turn_ended body from to t e l (inr (inl s)) = start_ended body from to t e l s
  turn_ended body from to t e l (inr (inr s)) = let a = s.0 in let b = s.1 in omega (arith, ints)

  -- for what is done no later date is due
  pub done_undue : (t : ℕ) → IsDue plan focus i t → d ≤ t → ⊥
  done_undue t (inl s) l = let c = s.1 in none_free i.partial c.0 done.0 (c.1).within (c.1).unbound
  done_undue t (inr (inr f)) l = let w = (f.1).1 in none_free i.partial f.0 done.0 w.within w.unbound
  done_undue t (inr (inl s)) l =
      let w = and_some (slice_get (chronicle plan).windows s.0) _ s.1 in
      let r = w.2 in turn_ended (w.0).body r.0 r.1 t
      (of_some (slice_get (chronicle plan).windows s.0) w.0 _ w.1 (done_ended s.0) r.0 r.1 r.2 r.3) l r.4
