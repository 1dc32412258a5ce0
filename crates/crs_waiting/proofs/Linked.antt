-- As handles are put under keys: the events and the windows of an instance, one after another.
use Rattle.std.proofs.Common.{Bool, true, false, ◌≡◌, ◌⊎◌, ℕ, ◌<◌, ◌≤◌, ◌+◌, ◌^◌, List, [], ◌∷◌, length, refl, sym, subst, ◌∙◌, inl, inr, arith}
use Rattle.std.specs.Prelude.{ℤ, pos, ◌≤ℤ◌, Option, Some, None, IfSome, slice_get, if◌then◌else◌}
use Rattle.std.proofs.lemmas.Int.{ints}
use Rattle.std.proofs.lemmas.Bool.{cases_lt}
use Rattle.std.proofs.lemmas.List.{length-map}
use Rattle.crs_agenda.specs.declared.timed.Handle.{Handle}
use Rattle.crs_base.specs.Words.{IsIn}
use Rattle.crs_base.proofs.Words.{in_append_left, in_append_right}
use Rattle.crs_index.specs.declared.key.Key.{Key}
use Rattle.crs_index.specs.Indexes.{IndexState, Puts, IsSame, bucket_of}
use Rattle.crs_index.proofs.Keys.{key_or_not, apart_from}
use Rattle.crs_instance.specs.Followed.{IsStretchAt}
use Rattle.crs_instance.specs.Instances.{InstanceState, window_at, progress_at}
use Rattle.crs_model.specs.declared.plan.Plan.{Plan}
use Rattle.crs_model.specs.declared.progress.Stretch.{Stretch}
use Rattle.crs_base.specs.declared.symbols.Sym.{Sym}
use Rattle.crs_model.specs.Bindings.{look_of}
use Rattle.crs_model.specs.HasProgress.{IsEnough}
use Rattle.crs_model.specs.Models.{Window}
use Rattle.crs_model.specs.Plans.{chronicle}
use Rattle.crs_model.specs.SeenModels.{window_of}
use Rattle.crs_model.proofs.Options.{of_some, some_if, get_within}
use Rattle.crs_waiting.specs.declared.hooks.Hook.{Hook}
use Rattle.crs_waiting.specs.Hooks.{Waits, key_of}
use Rattle.crs_waiting.specs.Links.{linked_by, CanStart, Grows, IsLinked, IsLinkedAnew, IsNear, IsArmedAnew, hook_at}
use Rattle.crs_waiting.specs.Linkings.{IsLinkedAt, IsArmedAt}

-- ---- one handle under a key

module _ (old new : IndexState) (key : Key) (handle : Handle) where
  pub put_grows : Puts old new key handle → Grows old new
  put_grows p k h i = elim (key_or_not key k) [
    | inl e ↦ subst (λ (q : Key). Waits new q h) e (subst (λ (l : List Handle). IsIn h l) (sym p.here) (in_append_left (bucket_of old key) (handle ∷ []) h (subst (λ (q : Key). Waits old q h) (sym e) i)))
    | inr n ↦ subst (λ (l : List Handle). IsIn h l) (sym (p.others k (apart_from key k n))) i
  ]

  pub put_waits : Puts old new key handle → Waits new key handle
  put_waits p = subst (λ (l : List Handle). IsIn handle l) (sym p.here) (in_append_right (bucket_of old key) (handle ∷ []) handle (inl refl))

pub same_grows : (old new : IndexState) → IsSame old new → Grows old new
same_grows old new s k h i = subst (λ (l : List Handle). IsIn h l) (sym (s k)) i

-- ---- the events of an instance

-- the events below n, one after another
pub record AreLinkedTo (plan : Plan) (focus : Bool) (hooks : List Hook) (handle : Handle) (since : Option ℕ) (h : ℕ) (i : InstanceState) (n : ℕ) (old new : IndexState) : Type 0 where
  pub below : (e : ℕ) → e < n → IsLinkedAt plan focus (hook_at hooks e) new handle since h i e
  pub grown : Grows old new

module _ (plan : Plan) (focus : Bool) (hooks : List Hook) (handle : Handle) (since : Option ℕ) (h : ℕ) (i : InstanceState) where
  pub linked_next : (n : ℕ) (old now new : IndexState) → AreLinkedTo plan focus hooks handle since h i n old now → Grows now new → IsLinkedAt plan focus (hook_at hooks n) new handle since h i n → AreLinkedTo plan focus hooks handle since h i (n + 1) old new
  linked_next n old now new a grown here = record {
    below = λ e l. elim (cases_lt e n) [ inl m ↦ (λ u s d. grown (key_of e (hook_at hooks e) (look_of i.binding)) handle (a.below e m u s d)) | inr g ↦ subst (λ (j : ℕ). IsLinkedAt plan focus (hook_at hooks j) new handle since h i j) (omega arith) here ];
    grown = λ k g w. grown k g (a.grown k g w);
  }

-- ---- its windows

if_more : {A : Type 0} (o : Option A) (P Q : A → Type 0) → IfSome o P → ((x : A) → P x → Q x) → IfSome o Q
if_more None P Q p f = tt
if_more (Some x) P Q p f = f x p

module _ (plan : Plan) (i : InstanceState) (k : ℕ) (hook : Hook) (index : IndexState) (handle : Handle) (since : Option ℕ) (h : ℕ) where
  pub unbegun_armed : (o : Option Stretch) → o ≡ None → IsStretchAt plan i k o → IsArmedAt plan hook index handle since h i k
  unbegun_armed o e s = if_more (slice_get (chronicle plan).windows k) _ _ (subst (IsStretchAt plan i k) e s) (λ w none from to st b wants near not l. absurd (none from to st b))

module _ (plan : Plan) (i : InstanceState) (k : ℕ) (hook : Hook) (index : IndexState) (handle : Handle) (since : Option ℕ) (h : ℕ) where
  -- a window whose count is enough
  pub enough_armed : (w : Window Sym) → slice_get (chronicle plan).windows k ≡ Some w → IsEnough w.body (progress_at i.progress k).count → IsArmedAt plan hook index handle since h i k
  enough_armed w is enough = some_if (slice_get (chronicle plan).windows k) _ (λ v at_k from to st b wants near not l. absurd (wants (subst (λ (t : Window Sym). IsEnough t.body (progress_at i.progress k).count) (one (sym is ∙ at_k)) enough)))
    where
      one : {a b : Window Sym} → Some a ≡ Some b → a ≡ b
      one e = cc

-- the windows below n, one after another
pub record AreArmedTo (plan : Plan) (hooks : List Hook) (handle : Handle) (since : Option ℕ) (h : ℕ) (i : InstanceState) (n : ℕ) (old new : IndexState) : Type 0 where
  pub below : (k : ℕ) → k < n → IsArmedAt plan (hook_at hooks k) new handle since h i k
  pub grown : Grows old new

module _ (plan : Plan) (hooks : List Hook) (handle : Handle) (since : Option ℕ) (h : ℕ) (i : InstanceState) where
  still_armed : (k : ℕ) (old new : IndexState) → Grows old new → IsArmedAt plan (hook_at hooks k) old handle since h i k → IsArmedAt plan (hook_at hooks k) new handle since h i k
  still_armed k old new grown a = if_more (slice_get (chronicle plan).windows k) _ _ a (λ w f from to st b wants near not l. grown (key_of (16 + k) (hook_at hooks k) (look_of i.binding)) handle (f from to st b wants near not l))

  pub armed_next : (n : ℕ) (old now new : IndexState) → AreArmedTo plan hooks handle since h i n old now → Grows now new → IsArmedAt plan (hook_at hooks n) new handle since h i n → AreArmedTo plan hooks handle since h i (n + 1) old new
  armed_next n old now new a grown here = record {
    below = λ k l. elim (cases_lt k n) [ inl m ↦ still_armed k now new grown (a.below k m) | inr g ↦ subst (λ (j : ℕ). IsArmedAt plan (hook_at hooks j) new handle since h i j) (omega arith) here ];
    grown = λ k g w. grown k g (a.grown k g w);
  }

  pub all_armed : (n : ℕ) (old new : IndexState) → AreArmedTo plan hooks handle since h i n old new → length plan.chronicle.windows ≤ n → IsArmedAnew plan hooks new handle since h i
  all_armed n old new a all k = some_if (slice_get (chronicle plan).windows k) _ (λ w is.
      let l = get_within (chronicle plan).windows k w is in
      let m = length-map plan.chronicle.windows window_of in
      of_some (slice_get (chronicle plan).windows k) w _ is (a.below k (omega arith)))

-- ---- both

-- what waits anew for events and windows still does
pub linked_still : (plan : Plan) (focus : Bool) (hooks : List Hook) (old new : IndexState) (handle : Handle) (since : Option ℕ) (h : ℕ) (i : InstanceState) → Grows old new → IsLinkedAnew plan focus hooks old handle since h i → IsLinkedAnew plan focus hooks new handle since h i
linked_still plan focus hooks old new handle since h i grown a e w s d = grown (key_of e (hook_at hooks e) (look_of i.binding)) handle (a e w s d)

pub armed_still : (plan : Plan) (hooks : List Hook) (old new : IndexState) (handle : Handle) (since : Option ℕ) (h : ℕ) (i : InstanceState) → Grows old new → IsArmedAnew plan hooks old handle since h i → IsArmedAnew plan hooks new handle since h i
armed_still plan hooks old new handle since h i grown a k = still_armed plan hooks handle since h i k old new grown (a k)

module _ (plan : Plan) (focus : Bool) (index : IndexState) (handle : Handle) (h : ℕ) (i : InstanceState) where
  -- nothing is new at the date itself
  pub none_linked : (hooks : List Hook) (since : ℕ) → since ≡ h → IsLinkedAnew plan focus hooks index handle (Some (linked_by plan since)) (linked_by plan h) i
  none_linked hooks since e f w s not = absurd (not (subst (λ (n : ℕ). CanStart i f (linked_by plan n)) (sym e) s))

  pub none_armed : (hooks : List Hook) (since : ℕ) → since ≡ h → IsArmedAnew plan hooks index handle (Some since) h i
  none_armed hooks since e k = some_if (slice_get (chronicle plan).windows k) _ (λ w is from to st b wants near not l. absurd (not (subst (λ (n : ℕ). IsNear from n) (sym e) near)))

-- ---- dates by which events can come

start_later : (o : Option ℤ) (d h : ℕ) → d ≤ h → IfSome o (λ m. m ≤ℤ pos d) → IfSome o (λ m. m ≤ℤ pos h)
start_later None d h l s = tt
start_later (Some m) d h l s = omega (arith, ints)

-- what waits for the events that can come by a date does for those that can by an earlier one
pub linked_earlier : (plan : Plan) (focus : Bool) (hooks : List Hook) (index : IndexState) (handle : Handle) (i : InstanceState) (d h : ℕ) → d ≤ h → IsLinked plan focus hooks index handle h i → IsLinked plan focus hooks index handle d i
linked_earlier plan focus hooks index handle i d h l linked e w can = linked e w (start_later (window_at i.windows e).least d h l can)

-- and what was judged at a date waits for those that can come by it, and of a prompt chronicle for all
pub within_linked : (plan : Plan) (d x : ℕ) → x < 2 ^ 40 → (x ≤ d) ⊎ (plan.chronicle.prompt ≡ true) → x ≤ linked_by plan d
within_linked plan d x small l = by plan.chronicle.prompt l
  where
    by : (b : Bool) → (x ≤ d) ⊎ (b ≡ true) → x ≤ (if b then 2 ^ 42 else d)
    by true m = omega arith
    by false (inl m) = m
    by false (inr e) = cc
