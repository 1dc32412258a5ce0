-- What is known of the instances after those that are touched or due were judged anew.
use Rattle.std.proofs.Common.{Bool, ◌≡◌, ◌⊎◌, ℕ, zero, suc, ◌<◌, ◌≤◌, ◌+◌, ◌^◌, List, length, refl, sym, ap, subst, ◌∙◌, inl, inr, arith, true, false}
use Rattle.std.specs.Prelude.{ℤ, pos, ◌≤ℤ◌, ◌+ℤ◌, Option, Some, None, IfSome, slice_get, All, negsuc, if◌then◌else◌}
use Rattle.std.proofs.lemmas.Bool.{cases_lt}
use Rattle.std.proofs.lemmas.Int.{ints, by_lt_z}
use Rattle.crs_agenda.specs.declared.timed.Handle.{Handle}
use Rattle.crs_agenda.specs.declared.timed.Timed.{Timed}
use Rattle.crs_agenda.specs.Freshness.{is_fresh}
use Rattle.crs_agenda.specs.Schedule.{Schedule}
use Rattle.crs_base.specs.Words.{IsIn}
use Rattle.crs_index.specs.declared.key.Key.{Key}
use Rattle.crs_index.specs.Indexes.{IndexState}
use Rattle.crs_instance.specs.Instances.{InstanceState, window_at, progress_at}
use Rattle.crs_model.specs.declared.plan.Plan.{Plan}
use Rattle.crs_model.specs.Bindings.{look_of}
use Rattle.crs_base.specs.declared.symbols.Sym.{Sym}
use Rattle.crs_model.specs.HasProgress.{IsEnough}
use Rattle.crs_model.specs.Models.{Body, NoEvent, Occurs, Hold}
use Rattle.crs_model.specs.Partial.{IsAwaited}
use Rattle.crs_model.specs.Plans.{chronicle, IsProper}
use Rattle.crs_model.proofs.Options.{of_some, some_if}
use Rattle.crs_waiting.specs.declared.hooks.Hook.{Hook}
use Rattle.crs_waiting.specs.Dues.{AreDue, AreKept, AreCollected, IsDue, IsUndue}
use Rattle.crs_waiting.specs.Hooks.{Waits, KeepsFresh, key_of}
use Rattle.crs_focus.specs.PlanLevels.{levels_in}
use Rattle.crs_waiting.specs.Links.{linked_by, CanStart, Grows, IsLinked, IsLinkedAnew, IsNear, IsArmed, IsArmedAnew, hook_at}
use Rattle.crs_living.specs.Slots.{SlotsState, slot_at, handle_at, Becomes}
use Rattle.crs_living.specs.Done.{IsDone}
use Rattle.crs_store.specs.Tidy.{IsKnown, IsTidy}
use Rattle.crs_living.specs.Windows.{IsAble, IsSameInstance, Gains}
use Rattle.crs_waiting.proofs.DuePairs.{dues_left, dues_later, left_undue}
use Rattle.crs_living.proofs.Members.{at_within}
use Rattle.crs_store.proofs.Noting.{fresh_at}
use Rattle.crs_living.proofs.Progress.{still_of}
use Rattle.crs_store.proofs.Registering.{done_known}
use Rattle.crs_living.proofs.Walked.{in_or_not}
use Rattle.crs_store.proofs.Unmoved.{near_early, undue_able, undue_undone}

-- only the progress of windows changed: the due dates are the same
pub same_dues : (plan : Plan) (focus : Bool) (old new : InstanceState) → IsSameInstance old new → (handle : Handle) (d : ℕ) (pairs : List Timed) → AreDue plan focus old handle d pairs → AreDue plan focus new handle d pairs
same_dues plan focus old new s handle d pairs due = subst (λ (i : InstanceState). AreDue plan focus i handle d pairs) (sym s.same) due

-- ---- dates at which an event can start

-- it can start by d, or its first date is after d
start_or_later : (o : Option ℤ) (d : ℕ) → IfSome o (λ m. m ≤ℤ pos d) ⊎ ((t : ℕ) × (d ≤ t) × (o ≡ Some (pos t +ℤ pos 1)))
start_or_later None d = inl tt
start_or_later (Some (pos zero)) d = inl (omega (arith, ints))
start_or_later (Some (pos (suc m))) d = elim (cases_lt m d) [
  | inl l ↦ inl (omega (arith, ints))
  | inr g ↦ inr (m, g, ap Some (omega (arith, ints)))
]
start_or_later (Some (negsuc m)) d = inl (omega (arith, ints))

pub can_start_or_not : (i : InstanceState) (e d : ℕ) → CanStart i e d ⊎ (CanStart i e d → ⊥)
can_start_or_not i e d = elim (start_or_later (window_at i.windows e).least d) [
  | inl s ↦ inl s
  | inr l ↦ inr (λ s. let q = of_some (window_at i.windows e).least (pos l.0 +ℤ pos 1) (λ m. m ≤ℤ pos d) l.2 s in let g = l.1 in omega (arith, ints))
]

near_or_not : (t : ℤ) (d : ℕ) → IsNear t d ⊎ (IsNear t d → ⊥)
near_or_not t d = by_lt_z (pos d +ℤ pos 1) t (λ l. inr (λ n. absurd (omega (arith, ints)))) (λ l. inl l)

-- a greater count is enough too
enough_more : (body : Body Sym) (n m : ℕ) → n ≤ m → IsEnough body n → IsEnough body m
enough_more (NoEvent p) n m l e = e
enough_more (Hold name terms value) n m l e = e
enough_more (Occurs least most p) n m l e = (e.0, let g = e.1 in omega arith)

-- where no date is due from d on before h, what can start by h can by d
pub starts_early : (plan : Plan) (focus : Bool) (i : InstanceState) (d h : ℕ) → plan.chronicle.prompt ≡ false → IsUndue plan focus i d h → (e : ℕ) → IsAwaited (levels_in plan focus) i.partial e → CanStart i e h → CanStart i e d
starts_early plan focus i d h plain undue e w can = elim (start_or_later (window_at i.windows e).least d) [
  | inl s ↦ s
  | inr r ↦
      let q = of_some (window_at i.windows e).least (pos r.0 +ℤ pos 1) (λ m. m ≤ℤ pos h) r.2 can in
      absurd (undue r.0 (inr (inr (e, (plain, w, r.2)))) r.1 (omega (arith, ints)))
]

-- the same of the date by which it is waited for
pub starts_linked : (plan : Plan) (focus : Bool) (i : InstanceState) (d h : ℕ) → IsUndue plan focus i d h → (e : ℕ) → IsAwaited (levels_in plan focus) i.partial e → CanStart i e (linked_by plan h) → CanStart i e (linked_by plan d)
starts_linked plan focus i d h undue e w can = by plan.chronicle.prompt refl can
  where
    by : (b : Bool) → plan.chronicle.prompt ≡ b → CanStart i e (if b then 2 ^ 42 else h) → CanStart i e (if b then 2 ^ 42 else d)
    by true p c = c
    by false p c = starts_early plan focus i d h p undue e w c

-- ---- one instance

module _ (plan : Plan) (focus : Bool) (proper : IsProper plan) (events windows : List Hook) (d h : ℕ) (later : d ≤ h) (small : h ≤ 2 ^ 42) (handle : Handle) (was index : IndexState) (keeps : (k : Key) → Waits was k handle → Waits index k handle) (old_pairs pairs : List Timed) (old_ripe ripe : List ℕ)
    (ripe_kept : (p : ℕ) → IsIn p old_ripe → IsIn p ripe) (i : InstanceState) (known : IsKnown plan focus events windows was old_pairs old_ripe handle d i) where
  -- a window that is near by h was so at d, and was armed
  armed_later : IsUndue plan focus i d h → IsArmed plan windows index handle h i
  armed_later undue k = some_if (slice_get (chronicle plan).windows k) _ (λ w is from to stretch bound wants near far. keeps (key_of (16 + k) (hook_at windows k) (look_of i.binding)) (of_some (slice_get (chronicle plan).windows k) w _ is (known.armed k) from to stretch bound wants (near_early plan focus i d h undue k w is from to stretch bound (omega (arith, ints)) near) (omega (arith, ints))))

  -- nothing was due, and it wasn't looked at
  pub stays_known : IsUndue plan focus i d h → AreDue plan focus i handle d pairs → IsKnown plan focus events windows index pairs ripe handle h i
  stays_known undue due = record {
    of = known.of;
    able = undue_able plan focus i d h undue later proper known.of known.able;
    linked = λ e w can. keeps (key_of e (hook_at events e) (look_of i.binding)) (known.linked e w (starts_linked plan focus i d h undue e w.awaited can));
    armed = armed_later undue;
    due = dues_later plan focus i handle d pairs due h later;
    done = λ done. ripe_kept handle.place (known.done (undue_undone plan focus i d h undue later done));
  }

  -- it was looked at, and only the progress of its windows changed: it is done, or it waits anew for what has come near
  module _ (j : InstanceState) (same : IsSameInstance i j) (gains : Gains i j) where
    -- a window that is still wanting was so before
    was_wanting : IsArmed plan windows was handle d (record i { progress = j.progress })
    was_wanting k = some_if (slice_get (chronicle plan).windows k) _ (λ w is from to stretch bound wants near far. of_some (slice_get (chronicle plan).windows k) w _ is (known.armed k) from to stretch bound (λ e. wants (enough_more w.body (progress_at i.progress k).count (progress_at j.progress k).count (gains k) e)) near far)

    was_armed : IsArmed plan windows was handle d j
    was_armed = subst (λ (t : InstanceState). IsArmed plan windows was handle d t) (sym same.same) was_wanting

    linked_anew : IsLinkedAnew plan focus events index handle (Some (linked_by plan d)) (linked_by plan h) j → IsLinked plan focus events index handle (linked_by plan h) j
    linked_anew anew e w can = elim (can_start_or_not j e (linked_by plan d)) [
      | inl early ↦ keeps (key_of e (hook_at events e) (look_of j.binding)) (subst (λ (t : InstanceState). IsLinked plan focus events was handle (linked_by plan d) t) (sym same.same) known.linked e w early)
      | inr not ↦ anew e w can not
    ]

    armed_anew : IsArmedAnew plan windows index handle (Some d) h j → IsArmed plan windows index handle h j
    armed_anew anew k = some_if (slice_get (chronicle plan).windows k) _ (λ w is from to stretch bound wants near far. elim (near_or_not from d) [
      | inl early ↦ keeps (key_of (16 + k) (hook_at windows k) (look_of j.binding)) (of_some (slice_get (chronicle plan).windows k) w _ is (was_armed k) from to stretch bound wants early (omega (arith, ints)))
      | inr not ↦ of_some (slice_get (chronicle plan).windows k) w _ is (anew k) from to stretch bound wants near not far
    ])

    pub becomes_known : IsAble plan focus h j → (IsDone plan h j → ⊥) → IsLinkedAnew plan focus events index handle (Some (linked_by plan d)) (linked_by plan h) j → IsArmedAnew plan windows index handle (Some d) h j → ((t : ℕ) → IsDue plan focus j t → h ≤ t → t < 2 ^ 42 → IsIn (record { date = t; handle = handle }) pairs) → IsKnown plan focus events windows index pairs ripe handle h j
    becomes_known able undone links arms due = record {
      of = still_of plan i j same known.of;
      able = able;
      linked = linked_anew links;
      armed = armed_anew arms;
      due = due;
      done = λ done. absurd (undone done);
    }

-- ---- all of them

pub fresh_place : (s : SlotsState) (p : ℕ) (i : InstanceState) → length s.serials ≡ length s.slots → slot_at s p ≡ Some i → is_fresh s.serials (handle_at s p) ≡ true
fresh_place s p i len is = fresh_at s.serials p (subst (λ (n : ℕ). p < n) (sym len) (at_within s.slots p i is))

module _ (plan : Plan) (focus : Bool) (proper : IsProper plan) (events windows : List Hook) (d h : ℕ) (later : d ≤ h) (small : h ≤ 2 ^ 42) (old new : SlotsState) (len : length old.serials ≡ length old.slots) (was between index : IndexState) (keeps : KeepsFresh old.serials was between) (grows : Grows between index)
    (old_dues dues : Schedule) (places : List ℕ) (collected : AreCollected h old_dues.pairs dues.pairs places) (all : All (λ t. h ≤ t.date) dues.pairs) (old_ripe ripe : List ℕ) (ripe_kept : (p : ℕ) → IsIn p old_ripe → IsIn p ripe) (tidy : IsTidy plan focus events windows old was old_dues old_ripe d) where
  waits_on : (p : ℕ) (i : InstanceState) → slot_at old p ≡ Some i → (k : Key) → Waits was k (handle_at old p) → Waits index k (handle_at old p)
  waits_on p i is k w = grows k (handle_at old p) (keeps k (handle_at old p) (fresh_place old p i len is) w)

  -- none of its dates is due before h where its place isn't among those
  pub apart_undue : (p : ℕ) (i : InstanceState) → slot_at old p ≡ Some i → (IsIn p places → ⊥) → IsUndue plan focus i d h
  apart_undue p i is apart = left_undue plan focus i (handle_at old p) d old_dues.pairs (tidy.known p i is).due h dues.pairs places collected apart small all

  module _ (R : InstanceState → InstanceState → Type 0) (same : (i j : InstanceState) → R i j → IsSameInstance i j × Gains i j) (at_places : (p : ℕ) → IsIn p places → Becomes R (IsAble plan focus h) (slot_at old p) (slot_at new p)) (others : (p : ℕ) → (IsIn p places → ⊥) → slot_at new p ≡ slot_at old p)
      (handles : (p : ℕ) (j : InstanceState) → slot_at new p ≡ Some j → handle_at new p ≡ handle_at old p) (last : SlotsState) (stands : last.slots ≡ new.slots) (stay : (p : ℕ) → (IsIn p places → ⊥) → handle_at last p ≡ handle_at new p) (ended : Schedule) (more : AreKept dues.pairs ended.pairs)
      (found : (p : ℕ) → IsIn p places → (j : InstanceState) → slot_at new p ≡ Some j → (IsDone plan h j × IsIn p ripe) ⊎ ((IsDone plan h j → ⊥)
      × (((handle_at last p ≡ handle_at new p) × IsLinkedAnew plan focus events index (handle_at last p) (Some (linked_by plan d)) (linked_by plan h) j × IsArmedAnew plan windows index (handle_at last p) (Some d) h j)
      ⊎ (IsLinkedAnew plan focus events index (handle_at last p) None (linked_by plan h) j × IsArmedAnew plan windows index (handle_at last p) None h j × AreDue plan focus j (handle_at last p) h ended.pairs)))) where
    -- what stands there was of something that stood there
    came_of : (o : Option InstanceState) (q : Option InstanceState) (j : InstanceState) → q ≡ Some j → Becomes R (IsAble plan focus h) o q → (i : InstanceState) × (o ≡ Some i) × R i j × IsAble plan focus h j
    came_of None None j e b = absurd cc
    came_of None (Some k) j e b = absurd b
    came_of (Some i) None j e b = absurd cc
    came_of (Some i) (Some k) j e b = let s : k ≡ j = cc in (i, refl, subst (λ (t : InstanceState). R i t) s b.0, subst (λ (t : InstanceState). IsAble plan focus h t) s b.1)

    known_there : (p : ℕ) (j : InstanceState) → slot_at new p ≡ Some j → IsIn p places → IsKnown plan focus events windows index ended.pairs ripe (handle_at last p) h j
    known_there p j is there =
        let r = came_of (slot_at old p) (slot_at new p) j is (at_places p there) in
        let one = same r.0 j r.2 in
        let known = tidy.known p r.0 r.1 in
        let of = still_of plan r.0 j one.0 known.of in
        elim (found p there j is) [
          | inl done ↦ done_known plan focus events windows index ended.pairs ripe (handle_at last p) h j of r.3 done.0 done.1
          | inr so ↦ elim so.1 [
            | inl anew ↦
                let kept : handle_at last p ≡ handle_at old p = anew.0 ∙ handles p j is in
                subst (λ (g : Handle). IsKnown plan focus events windows index ended.pairs ripe g h j) (sym kept)
                (becomes_known plan focus proper events windows d h later small (handle_at old p) was index (waits_on p r.0 r.1) old_dues.pairs ended.pairs old_ripe ripe ripe_kept
                r.0 known j one.0 one.1 r.3 so.0 (subst (λ (g : Handle). IsLinkedAnew plan focus events index g (Some (linked_by plan d)) (linked_by plan h) j) kept anew.1) (subst (λ (g : Handle). IsArmedAnew plan windows index g (Some d) h j) kept anew.2)
                (λ t due l m. more _ (elim (collected _ (same_dues plan focus r.0 j one.0 (handle_at old p) d old_dues.pairs known.due t due (omega arith) m)) [ inl k ↦ k | inr k ↦ (let early = k.0 in absurd (omega arith)) ])))
            | inr whole ↦ record {
              of = of;
              able = r.3;
              linked = λ e w can. whole.0 e w can tt;
              armed = λ k. some_if (slice_get (chronicle plan).windows k) _ (λ w at_k from to stretch bound wants near far. of_some (slice_get (chronicle plan).windows k) w _ at_k (whole.1 k) from to stretch bound wants near tt far);
              due = whole.2;
              done = λ d. absurd (so.0 d);
            }
          ]
        ]

    known_apart : (p : ℕ) (j : InstanceState) → slot_at new p ≡ Some j → (IsIn p places → ⊥) → IsKnown plan focus events windows index ended.pairs ripe (handle_at last p) h j
    known_apart p j is apart =
        let was_there : slot_at old p ≡ Some j = sym (others p apart) ∙ is in
        let known = tidy.known p j was_there in
        let kept : handle_at last p ≡ handle_at old p = stay p apart ∙ handles p j is in
        subst (λ (g : Handle). IsKnown plan focus events windows index ended.pairs ripe g h j) (sym kept)
        (stays_known plan focus proper events windows d h later small (handle_at old p) was index (waits_on p j was_there) old_dues.pairs ended.pairs old_ripe ripe ripe_kept
        j known (apart_undue p j was_there apart) (λ t due l m. more _ (dues_left plan focus j (handle_at old p) d old_dues.pairs known.due h dues.pairs places collected apart t due l m)))

    pub renewed_tidy : ended.date ≤ h → IsTidy plan focus events windows last index ended ripe h
    renewed_tidy stood = record {
      known = λ p j is.
          let there : slot_at new p ≡ Some j = ap (λ (xs : List (Option InstanceState)). slot_at (record { slots = xs; serials = last.serials }) p) (sym stands) ∙ is in elim (in_or_not p places) [ inl i ↦ known_there p j there i | inr apart ↦ known_apart p j there apart ];
      stood = stood;
    }
