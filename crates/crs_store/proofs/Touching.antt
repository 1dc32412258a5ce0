-- Instances of which an entry touches no window.
use Rattle.std.proofs.Common.{Bool, refl, ◌⊎◌, ◌≡◌, ℕ, zero, suc, ◌<◌, ◌≤◌, ◌+◌, List, [], ◌∷◌, length, sym, subst, ◌∙◌, inl, inr, arith}
use Rattle.std.specs.Prelude.{ℤ, Some, None, slice_get}
use Rattle.std.specs.List.{AllZip, AllByRecursion}
use Rattle.std.proofs.lemmas.Int.{ints}
use Rattle.std.proofs.lemmas.Bool.{cases_lt}
use Rattle.std.proofs.lemmas.List.{length-map}
use Rattle.crs_base.specs.declared.symbols.Sym.{Sym}
use Rattle.crs_base.specs.Words.{IsIn}
use Rattle.crs_base.specs.Entry.{Entry}
use Rattle.crs_index.specs.Indexes.{IndexState}
use Rattle.crs_instance.specs.Instances.{InstanceState, progress_at}
use Rattle.crs_model.specs.declared.plan.Plan.{Plan}
use Rattle.crs_model.specs.Bindings.{look_of}
use Rattle.crs_model.specs.HasProgress.{IsEnough, Hits, Spares}
use Rattle.crs_model.specs.Matching.{Binding, TermIs}
use Rattle.crs_model.specs.Models.{Body, NoEvent, Occurs, Hold, Window}
use Rattle.crs_model.specs.Plans.{chronicle}
use Rattle.crs_model.specs.SeenModels.{window_of}
use Rattle.crs_model.specs.Verdicts.{IsStretch, TermIsBound, BodyIsBound, IsDatedIn}
use Rattle.crs_model.proofs.Options.{of_some, some_if, get_within}
use Rattle.crs_waiting.specs.declared.hooks.Hook.{Hook}
use Rattle.crs_waiting.specs.Dues.{IsUndue, IsUntouched}
use Rattle.crs_waiting.specs.declared.hooks.Symbols.{Symbols}
use Rattle.crs_waiting.specs.Hooks.{IsHookOfWindow, Waits, key_with, name_of, terms_of}
use Rattle.crs_waiting.specs.Links.{IsArmed, IsWanting, hook_at}
use Rattle.crs_store.specs.Waiters.{HasWaiting, HasTouched}
use Rattle.crs_living.specs.Slots.{SlotsState, handle_at}
use Rattle.crs_waiting.proofs.Fitting.{fitting_whole}
use Rattle.crs_store.proofs.Unmoved.{near_early}
use Rattle.crs_agenda.specs.Freshness.{is_fresh}
use Rattle.std.specs.Prelude.{true}

-- what stands at a place of the first, and at the same of the second
zip_at : {A : Type 0} (R : A → Hook → Type 0) (xs : List A) (hooks : List Hook) (k : ℕ) (x : A) → AllZip R xs hooks → slice_get xs k ≡ Some x → (k < length hooks) × R x (hook_at hooks k)
zip_at R [] hooks k x z e = absurd cc
zip_at R (y ∷ xs) [] k x z e = absurd z
zip_at {A} R (y ∷ xs) (h ∷ hooks) zero x z e = let s : y ≡ x = cc in (omega arith, subst (λ (t : A). R t h) s z.0)
zip_at R (y ∷ xs) (h ∷ hooks) (suc k) x z e = let r = zip_at R xs hooks k x z.1 e in (let l = r.0 in omega arith, r.1)

-- the terms of a bound body are bound
terms_bound : (look : Binding Sym) (body : Body Sym) → BodyIsBound look body → AllByRecursion (TermIsBound look) (terms_of body)
terms_bound look (NoEvent q) bound = bound.0
terms_bound look (Occurs least most q) bound = bound.0
terms_bound look (Hold name terms value) bound = bound.0

enough_or_not : (body : Body Sym) (n : ℕ) → IsEnough body n ⊎ (IsEnough body n → ⊥)
enough_or_not (NoEvent p) n = inr (λ e. e)
enough_or_not (Hold name terms value) n = inr (λ e. e)
enough_or_not (Occurs least (Some m) p) n = inr (λ e. let f = e.0 in absurd cc)
enough_or_not (Occurs least None p) n = elim (cases_lt n least) [ inl l ↦ inr (λ e. let g = e.1 in omega arith) | inr g ↦ inl (refl, g) ]

module _ (plan : Plan) (windows : List Hook) (hooks : AllZip IsHookOfWindow (chronicle plan).windows windows) (slots : SlotsState) (index : IndexState) (x : Entry Sym) (d : ℕ) (later : d ≤ x.date) (places : List ℕ) (touched : HasTouched plan windows slots index x (length plan.chronicle.windows) places)
    (p : ℕ) (fresh : is_fresh slots.serials (handle_at slots p) ≡ true) (i : InstanceState) (armed : IsArmed plan windows index (handle_at slots p) d i) (focus : Bool) (undue : IsUndue plan focus i d x.date) (apart : IsIn p places → ⊥) (k : ℕ) (w : Window Sym) (is : slice_get (chronicle plan).windows k ≡ Some w) (from to : ℤ) (stretch : IsStretch i.partial w from to) (bound : BodyIsBound (look_of i.binding) w.body) where
  -- an entry of the name and the terms that is dated in the stretch would be noted
  never : IsWanting i k w → HasWaiting slots index (16 + k) (hook_at windows k) x places → name_of w.body ≡ x.name → AllZip (TermIs (look_of i.binding)) (terms_of w.body) x.args → IsDatedIn from to x → ⊥
  never wants has named zips dated =
      let at_k = zip_at IsHookOfWindow (chronicle plan).windows windows k w hooks is in
      let hook = hook_at windows k in
      let near = near_early plan focus i d x.date undue k w is from to stretch bound (let a = dated.0 in let b = dated.1 in omega (arith, ints)) (let a = dated.0 in omega (arith, ints)) in
      let waits = of_some (slice_get (chronicle plan).windows k) w _ is (armed k) from to stretch bound wants near (let a = dated.1 in omega (arith, ints)) in
      let same = fitting_whole hook (name_of w.body) (terms_of w.body) x.args (look_of i.binding) at_k.1 zips (terms_bound (look_of i.binding) w.body bound) in
      apart (has p fresh ((at_k.1).named ∙ named) (subst (λ (s : Symbols). Waits index (key_with (16 + k) s) (handle_at slots p)) same waits))

  by_body : (body : Body Sym) → (name_of body ≡ x.name → AllZip (TermIs (look_of i.binding)) (terms_of body) x.args → IsDatedIn from to x → ⊥) → (Hits (look_of i.binding) body from to x → ⊥) × Spares (look_of i.binding) body from to x
  by_body (NoEvent q) never_so = (λ hit. never_so (hit.1).name (hit.1).terms hit.0, tt)
  by_body (Occurs least most q) never_so = (λ hit. never_so (hit.1).name (hit.1).terms hit.0, tt)
  by_body (Hold name terms value) never_so = (λ hit. hit, λ a v held change dated. absurd (never_so (sym held.name_is ∙ sym change.named) (subst (λ (ys : List Sym). AllZip (TermIs (look_of i.binding)) terms ys) (sym change.of) held.args_are) dated))

  pub window_untouched : IsEnough w.body (progress_at i.progress k).count ⊎ ((Hits (look_of i.binding) w.body from to x → ⊥) × Spares (look_of i.binding) w.body from to x)
  window_untouched = elim (of_some (slice_get (chronicle plan).windows k) w _ is (touched k (let l = get_within (chronicle plan).windows k w is in let m = length-map plan.chronicle.windows window_of in omega arith))) [
    | inl refused ↦ inr (refused (look_of i.binding) from to)
    | inr has ↦ (elim (enough_or_not w.body (progress_at i.progress k).count) [ inl e ↦ inl e | inr wants ↦ inr (by_body w.body (never wants has)) ])
  ]

pub untouched : (plan : Plan) (windows : List Hook) → AllZip IsHookOfWindow (chronicle plan).windows windows → (slots : SlotsState) (index : IndexState) (x : Entry Sym) (d : ℕ) → d ≤ x.date → (places : List ℕ) → HasTouched plan windows slots index x (length plan.chronicle.windows) places → (p : ℕ) → is_fresh slots.serials (handle_at slots p) ≡ true →
    (i : InstanceState) → IsArmed plan windows index (handle_at slots p) d i → (focus : Bool) → IsUndue plan focus i d x.date → (IsIn p places → ⊥) → IsUntouched plan i x
untouched plan windows hooks slots index x d later places touched p fresh i armed focus undue apart k = some_if (slice_get (chronicle plan).windows k) _ (λ w is from to stretch bound. window_untouched plan windows hooks slots index x d later places touched p fresh i armed focus undue apart k w is from to stretch bound)
