-- What is found again of an instance that comes.
use Rattle.std.proofs.Common.{Bool, ◌≡◌, ℕ, List, [], ◌∷◌, ◌++◌, refl, sym, ap, subst, ◌∙◌, inl, arith, append-nil, append_assoc, inr}
use Rattle.std.specs.Prelude.{Some, None, slice_get, false}
use Rattle.std.proofs.lemmas.Int.{ints}
use Rattle.crs_agenda.specs.declared.timed.Handle.{Handle}
use Rattle.crs_agenda.specs.declared.timed.Timed.{Timed}
use Rattle.crs_agenda.specs.Schedule.{Schedule}
use Rattle.crs_base.specs.Words.{IsIn}
use Rattle.crs_index.specs.Indexes.{IndexState}
use Rattle.crs_instance.specs.Instances.{InstanceState, IsOf}
use Rattle.crs_model.specs.declared.plan.Plan.{Plan}
use Rattle.crs_model.specs.Plans.{chronicle}
use Rattle.crs_model.proofs.Options.{of_some, some_if}
use Rattle.crs_store.specs.declared.holding.Holding.{Holding}
use Rattle.crs_waiting.specs.declared.hooks.Hook.{Hook}
use Rattle.crs_waiting.specs.declared.hooks.Hooks.{Hooks}
use Rattle.crs_waiting.specs.Dues.{AreDue, AreKept}
use Rattle.crs_store.specs.Found.{founds, held_in}
use Rattle.crs_living.specs.Parts.{AllOf}
use Rattle.crs_model.specs.declared.recognition.Recognition.{Recognition}
use Rattle.crs_waiting.specs.Links.{linked_by, Grows, IsLinkedAnew, IsArmedAnew, hook_at}
use Rattle.crs_waiting.specs.Hooks.{key_of}
use Rattle.crs_model.specs.Bindings.{look_of}
use Rattle.crs_living.specs.Slots.{SlotsState, slot_at, handle_at, Puts}
use Rattle.crs_living.specs.Done.{IsDone}
use Rattle.crs_store.specs.Tidy.{IsKnown, IsTidy, IsTidyHolding, Registers}
use Rattle.crs_living.specs.Windows.{IsAble}
use Rattle.crs_store.proofs.Advancing.{all_some_of}
use Rattle.std.specs.List.{AllByRecursion}
use Rattle.crs_base.proofs.Words.{in_from_each, in_append_left, in_append_right}
use Rattle.crs_store.specs.Joins.{ComesOrGoes, Joins, JoinsSome, LeavesOut}
use Rattle.crs_store.proofs.Joined.{put_tidy, joins_none, joins_more}
use Rattle.crs_store.proofs.Unmoved.{done_ended, done_undue}

one : {a b : InstanceState} → Some a ≡ Some b → a ≡ b
one e = cc

pub registered : (plan : Plan) (focus : Bool) (hooks : Hooks) (h place : ℕ) (old : Holding) (linked armed : IndexState) (dues : Schedule) (j : InstanceState) → slot_at old.slots place ≡ Some j → Grows old.waiting linked → Grows linked armed → AreKept old.dues.pairs dues.pairs → dues.date ≡ old.dues.date
    → IsLinkedAnew plan focus hooks.events.items linked (handle_at old.slots place) None (linked_by plan h) j → IsArmedAnew plan hooks.windows.items armed (handle_at old.slots place) None h j → AreDue plan focus j (handle_at old.slots place) h dues.pairs → Registers plan focus hooks h place old (record { slots = old.slots; waiting = armed; dues = dues; ripe = old.ripe; room = old.room })
registered plan focus hooks h place old linked armed dues j is first second kept stood links arms due = record {
  slots = refl;
  ripe = refl;
  grown = λ k g w. second k g (first k g w);
  kept = kept;
  stood = stood;
  linked = λ i at_i. subst (λ (t : InstanceState). IsLinkedAnew plan focus hooks.events.items armed (handle_at old.slots place) None (linked_by plan h) t) (one (sym is ∙ at_i)) (λ e w can none. second (key_of e (hook_at hooks.events.items e) (look_of j.binding)) (handle_at old.slots place) (links e w can none));
  armed = λ i at_i. subst (λ (t : InstanceState). IsArmedAnew plan hooks.windows.items armed (handle_at old.slots place) None h t) (one (sym is ∙ at_i)) arms;
  due = λ i at_i. subst (λ (t : InstanceState). AreDue plan focus t (handle_at old.slots place) h dues.pairs) (one (sym is ∙ at_i)) due;
}

-- an instance that is done waits for nothing
pub done_known : (plan : Plan) (focus : Bool) (events windows : List Hook) (index : IndexState) (pairs : List Timed) (ripe : List ℕ) (handle : Handle) (h : ℕ) (i : InstanceState) → IsOf plan i → IsAble plan focus h i → IsDone plan h i → IsIn handle.place ripe → IsKnown plan focus events windows index pairs ripe handle h i
done_known plan focus events windows index pairs ripe handle h i of able done there = record {
  of = of;
  able = able;
  linked = λ e w can. absurd (all_some_of i.partial done.0 e w.awaited.within w.awaited.unbound);
  armed = λ k. some_if (slice_get (chronicle plan).windows k) _ (λ w is from to stretch bound wants near far. let q = of_some (slice_get (chronicle plan).windows k) w _ is (done_ended plan focus i h done k) from to stretch bound in absurd (omega (arith, ints)));
  due = λ t due l m. absurd (done_undue plan focus i h done t due l);
  done = λ d. there;
}

-- one that isn't is found again
pub undone_known : (plan : Plan) (focus : Bool) (hooks : Hooks) (h place : ℕ) (mid new : Holding) (i : InstanceState) → slot_at mid.slots place ≡ Some i → Registers plan focus hooks h place mid new → IsOf plan i → IsAble plan focus h i → (IsDone plan h i → ⊥) → IsKnown plan focus hooks.events.items hooks.windows.items new.waiting new.dues.pairs new.ripe.items (handle_at mid.slots place) h i
undone_known plan focus hooks h place mid new i is r of able undone = record {
  of = of;
  able = able;
  linked = λ e w can. r.linked i is e w can tt;
  armed = λ k. some_if (slice_get (chronicle plan).windows k) _ (λ w at_k from to stretch bound wants near far. of_some (slice_get (chronicle plan).windows k) w _ at_k (r.armed i is k) from to stretch bound wants near tt far);
  due = r.due i is;
  done = λ d. absurd (undone d);
}

-- one that is done comes, and its place is named
pub held_done : (plan : Plan) (focus : Bool) (hooks : Hooks) (h : ℕ) (old : Holding) (slots : SlotsState) (ripe : List ℕ) (p : ℕ) (i : InstanceState) → Puts old.slots slots p i → ripe ≡ old.ripe.items ++ p ∷ [] → IsOf plan i → IsAble plan focus h i → IsDone plan h i → IsTidyHolding plan focus hooks old h → IsTidy plan focus hooks.events.items hooks.windows.items slots old.waiting old.dues ripe h
held_done plan focus hooks h old slots ripe p i puts named of able done tidy =
    put_tidy plan focus hooks.events.items hooks.windows.items old.slots slots p i puts old.waiting old.waiting (λ k g w. w) old.dues old.dues (λ t j. j) refl old.ripe.items ripe (λ q j. subst (IsIn q) (sym named) (in_append_left old.ripe.items (p ∷ []) q j)) h tidy
    (done_known plan focus hooks.events.items hooks.windows.items old.waiting old.dues.pairs ripe (handle_at slots p) h i of able done (subst (IsIn p) (sym named) (in_append_right old.ripe.items (p ∷ []) p (inl refl))))

-- one that isn't comes, and is found again
pub held_registered : (plan : Plan) (focus : Bool) (hooks : Hooks) (h : ℕ) (old : Holding) (slots : SlotsState) (p : ℕ) (i : InstanceState) → Puts old.slots slots p i → (new : Holding) → Registers plan focus hooks h p (record { slots = slots; waiting = old.waiting; dues = old.dues; ripe = old.ripe; room = old.room }) new → IsOf plan i → IsAble plan focus h i → (IsDone plan h i → ⊥) → IsTidyHolding plan focus hooks old h → IsTidyHolding plan focus hooks new h
held_registered plan focus hooks h old slots p i puts new r of able undone tidy =
    let mid : Holding = record { slots = slots; waiting = old.waiting; dues = old.dues; ripe = old.ripe; room = old.room } in
    subst (λ (s : SlotsState). IsTidy plan focus hooks.events.items hooks.windows.items s new.waiting new.dues new.ripe.items h) (sym r.slots)
    (put_tidy plan focus hooks.events.items hooks.windows.items old.slots slots p i puts old.waiting new.waiting r.grown old.dues new.dues r.kept r.stood old.ripe.items new.ripe.items (λ q j. subst (IsIn q) (sym r.ripe) j) h tidy (undone_known plan focus hooks h p mid new i puts.here r of able undone))

-- ---- one after another

-- those behind the rest have come
pub record IsHeldTo (plan : Plan) (focus : Bool) (hooks : Hooks) (h : ℕ) (Out : InstanceState → Type 0) (finds : Bool) (old : Holding) (first : List Recognition) (born rest : List InstanceState) (now : Holding) (found : List Recognition) : Type 0 where
  pub tidy : IsTidyHolding plan focus hooks now h
  pub kept : AllOf plan (founds plan found)
  pub placed : finds ≡ false → found ≡ first
  pub met : List InstanceState
  pub all : born ≡ rest ++ met
  pub come : List InstanceState
  pub left : LeavesOut Out met come
  pub joins : Joins (held_in plan old.slots first) come (held_in plan now.slots found)

module _ (plan : Plan) (focus : Bool) (hooks : Hooks) (h : ℕ) (Out : InstanceState → Type 0) (finds : Bool) (old : Holding) (first : List Recognition) (born : List InstanceState) where
  pub held_none : IsTidyHolding plan focus hooks old h → AllOf plan (founds plan first) → IsHeldTo plan focus hooks h Out finds old first born born old first
  held_none tidy all = record { tidy = tidy; kept = all; placed = λ e. refl; met = []; all = sym (append-nil born); come = []; left = refl; joins = joins_none (held_in plan old.slots first) }

  pub held_more : (rest left : List InstanceState) (now new : Holding) (found more : List Recognition) (i : InstanceState) → IsHeldTo plan focus hooks h Out finds old first born rest now found → rest ≡ left ++ i ∷ [] → IsTidyHolding plan focus hooks new h → AllOf plan (founds plan more) → (finds ≡ false → more ≡ found) → ComesOrGoes Out i (held_in plan now.slots found) (held_in plan new.slots more)
      → IsHeldTo plan focus hooks h Out finds old first born left new more
  held_more rest left now new found more i held is tidy all_more same comes = elim comes [
    | inl c ↦ record {
      tidy = tidy;
      kept = all_more;
      placed = λ e. same e ∙ held.placed e;
      met = i ∷ held.met;
      all = longer;
      come = i ∷ held.come;
      left = inl (held.come, refl, held.left);
      joins = joins_more (held_in plan old.slots first) held.come (held_in plan now.slots found) i c.0 c.1 (held_in plan new.slots more) held.joins c.2 c.3;
    }
    | inr g ↦ record {
      tidy = tidy;
      kept = all_more;
      placed = λ e. same e ∙ held.placed e;
      met = i ∷ held.met;
      all = longer;
      come = held.come;
      left = inr (g.0, held.left);
      joins = subst (λ (t : List InstanceState). Joins (held_in plan old.slots first) held.come t) (sym g.1) held.joins;
    }
  ]
    where
      longer : born ≡ left ++ i ∷ held.met
      longer = held.all ∙ ap (λ (t : List InstanceState). t ++ held.met) is ∙ append_assoc left (i ∷ []) held.met

  pub held_each : (P : InstanceState → Type 0) (rest left : List InstanceState) (now : Holding) (found : List Recognition) (i : InstanceState) → IsHeldTo plan focus hooks h Out finds old first born rest now found → rest ≡ left ++ i ∷ [] → AllByRecursion P born → P i
  held_each P rest left now found i held is all = in_from_each P born all i (subst (IsIn i) (sym (held.all ∙ ap (λ (t : List InstanceState). t ++ held.met) is)) (in_append_left (left ++ i ∷ []) held.met i (in_append_right left (i ∷ []) i (inl refl))))

  pub held_whole : (rest : List InstanceState) (now : Holding) (found : List Recognition) → IsHeldTo plan focus hooks h Out finds old first born rest now found → rest ≡ [] → JoinsSome Out (held_in plan old.slots first) born (held_in plan now.slots found)
  held_whole rest now found held is = (held.come, subst (λ (t : List InstanceState). LeavesOut Out t held.come) (sym (held.all ∙ ap (λ (t : List InstanceState). t ++ held.met) is)) held.left, held.joins)
