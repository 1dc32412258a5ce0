-- A store, from what is held.
use Rattle.std.proofs.Common.{◌≡◌, ℕ, zero, suc, ◌≤◌, ◌+◌, ◌*◌, ◌^◌, List, [], ◌∷◌, ◌++◌, length, sym, ap, subst, ◌∙◌, inl, inr, arith, append-nil}
use Rattle.std.proofs.lemmas.List.{length-append, length-map, nil_from_length}
use Rattle.std.specs.Prelude.{Option, Some, None, slice_get}
use Rattle.std.proofs.Math.Nat.{mul_assoc, mul_comm}
use Rattle.crs_agenda.specs.declared.timed.Handle.{Handle}
use Rattle.crs_base.specs.Sifted.{Sifts}
use Rattle.crs_base.proofs.Alls.{all_append, all_right}
use Rattle.crs_base.proofs.Words.{each_from_in}
use Rattle.crs_index.specs.Indexes.{IndexState}
use Rattle.crs_instance.specs.Instances.{InstanceState, IsOf}
use Rattle.crs_model.specs.Bindings.{look_of}
use Rattle.crs_model.specs.declared.plan.Plan.{Plan}
use Rattle.crs_model.specs.declared.recognition.Recognition.{Recognition}
use Rattle.crs_model.specs.Plans.{chronicle}
use Rattle.crs_model.proofs.Options.{of_some, some_if}
use Rattle.crs_store.specs.declared.holding.Holding.{Holding}
use Rattle.crs_waiting.specs.declared.hooks.Hooks.{Hooks}
use Rattle.crs_store.specs.Forkings.{KeepsStanding}
use Rattle.std.specs.Prelude.{Bool, false}
use Rattle.crs_waiting.specs.Hooks.{AreHooks, key_of}
use Rattle.crs_waiting.specs.Orders.{AreOrdered}
use Rattle.crs_store.specs.Found.{found_state, founds, held_in}
use Rattle.crs_store.specs.Joins.{ComesTo, Renews}
use Rattle.crs_waiting.specs.Links.{linked_by, hook_at}
use Rattle.crs_store.specs.Waiters.{AreLinked}
use Rattle.crs_store.specs.Ripenings.{AreLeft, LeftAt}
use Rattle.crs_living.specs.Slots.{SlotsState, slot_at, handle_at, members}
use Rattle.crs_living.specs.Done.{IsDone}
use Rattle.crs_living.specs.Parts.{AllOf}
use Rattle.crs_store.specs.Stores.{IsStore}
use Rattle.crs_store.specs.Tidy.{IsKnown, IsTidy, IsTidyHolding}
use Rattle.crs_living.specs.Windows.{IsAble}
use Rattle.std.specs.List.{AllByRecursion}
use Rattle.crs_waiting.proofs.Linked.{linked_earlier}
use Rattle.crs_store.proofs.Standing.{zip_length}
use Rattle.crs_living.proofs.Members.{member_at}

module _ (plan : Plan) (focus : Bool) (hooks : Hooks) (holding : Holding) (d : ℕ) (tidy : IsTidyHolding plan focus hooks holding d) where
  pub tidy_all : AllOf plan (members holding.slots.slots)
  tidy_all = each_from_in (IsOf plan) (members holding.slots.slots) (λ i k. let r = member_at holding.slots.slots i k in (tidy.known r.0 i r.1).of)

  -- as what stands in places goes on to wait
  pub tidy_standing : (index : IndexState) → KeepsStanding holding.slots holding.waiting index → IsTidy plan focus hooks.events.items hooks.windows.items holding.slots index holding.dues holding.ripe.items d
  tidy_standing index keeps = record {
    known = λ p i is.
        let k = tidy.known p i is in
        record {
          of = k.of;
          able = k.able;
          linked = λ e w can. keeps (key_of e (hook_at hooks.events.items e) (look_of i.binding)) p i is (k.linked e w can);
          armed = λ n. some_if (slice_get (chronicle plan).windows n) _ (λ w at_n from to stretch bound wants near far. keeps (key_of (16 + n) (hook_at hooks.windows.items n) (look_of i.binding)) p i is (of_some (slice_get (chronicle plan).windows n) w _ at_n (k.armed n) from to stretch bound wants near far));
          due = k.due;
          done = k.done;
        };
    stood = tidy.stood;
  }

  pub tidy_able : AllByRecursion (IsAble plan focus d) (members holding.slots.slots)
  tidy_able = each_from_in (IsAble plan focus d) (members holding.slots.slots) (λ i k. let r = member_at holding.slots.slots i k in (tidy.known r.0 i r.1).able)

  -- what may take an entry of a date waits for it
  pub tidy_linked : (x : ℕ) → x ≤ linked_by plan d → AreLinked plan focus hooks.events.items holding.slots holding.waiting x
  tidy_linked x l p i is = linked_earlier plan focus hooks.events.items holding.waiting (handle_at holding.slots p) i x (linked_by plan d) l (tidy.known p i is).linked

-- ---- costs

sifted_few : {A : Type 0} (P : A → Type 0) (xs ys : List A) → Sifts P xs ys → length ys ≤ length xs
sifted_few P [] ys s = let e = ap length s in omega arith
sifted_few P (x ∷ xs) ys (inl s) = let h = sifted_few P xs s.1 s.3 in let e = ap length s.2 in omega arith
sifted_few P (x ∷ xs) ys (inr s) = let h = sifted_few P xs ys s.1 in omega arith

times_more : (e a b : ℕ) → a ≤ b → e * a ≤ e * b
times_more zero a b l = omega arith
times_more (suc e) a b l = let h = times_more e a b l in omega arith

twice_each : (e b : ℕ) → e * (2 * b) ≡ 2 * e * b
twice_each e b = sym (mul_assoc e 2 b) ∙ ap (λ (t : ℕ). t * b) (mul_comm e 2)

pub flat_ticks : (focus : Bool) (events start now each : ℕ) → (focus ≡ false → now ≤ start + events * (2 * each)) → focus ≡ false → now ≤ start + 2 * events * each
flat_ticks focus events start now each ticks flat = let t = ticks flat in let two = twice_each events each in omega arith

pub few_ticks : (R : InstanceState → InstanceState → Type 0) (Able : InstanceState → Type 0) (events start steps : ℕ) (old kept : List InstanceState) → Renews R Able old kept → steps ≤ start + events * (2 * length kept) → steps ≤ start + 2 * events * length old
few_ticks R Able events start steps old kept renews ticks =
    let few = sifted_few Able renews.0 kept renews.2 in
    let same = zip_length R old renews.0 renews.1 in
    let more : 2 * events * length kept ≤ 2 * events * length old = times_more (2 * events) (length kept) (length old) (omega arith) in
    let two = twice_each events (length kept) in
    omega arith

-- ---- at a mark, and at the start

pub left_tidy : (plan : Plan) (focus : Bool) (hooks : Hooks) (holding : Holding) (h : ℕ) → IsTidyHolding plan focus hooks holding h → (slots : SlotsState) (ripe : List ℕ) → AreLeft plan h holding.slots slots → IsTidy plan focus hooks.events.items hooks.windows.items slots holding.waiting holding.dues ripe h
left_tidy plan focus hooks holding h tidy slots ripe left = record {
  known = λ p i is.
      let r = was (slot_at holding.slots p) (slot_at slots p) i is (left.each p) in
      let k = tidy.known p i r.0 in
      subst (λ (g : Handle). IsKnown plan focus hooks.events.items hooks.windows.items holding.waiting holding.dues.pairs ripe g h i) (sym (left.handles p i is)) (record { of = k.of; able = k.able; linked = k.linked; armed = k.armed; due = k.due; done = λ done. absurd (r.1 done) });
  stood = tidy.stood;
}
  where
    was : (o q : Option InstanceState) (i : InstanceState) → q ≡ Some i → LeftAt plan h o q → (o ≡ Some i) × (IsDone plan h i → ⊥)
    was None None i e l = absurd cc
    was None (Some j) i e l = absurd l
    was (Some k) None i e l = absurd cc
    was (Some k) (Some j) i e l = let s : j ≡ i = cc in (ap Some (sym l.0 ∙ s), λ d. l.1 (subst (IsDone plan h) (sym (sym l.0 ∙ s)) d))

-- one that joins none is alone
pub root_held : (i : InstanceState) (old new : List InstanceState) → old ≡ [] → ComesTo i old new → new ≡ i ∷ []
root_held i old new none c = by c.0 c.1 (sym c.2 ∙ none) c.3
  where
    by : (front back : List InstanceState) → front ++ back ≡ [] → new ≡ front ++ i ∷ back → new ≡ i ∷ []
    by [] [] e f = f
    by [] (y ∷ back) e f = absurd cc
    by (y ∷ front) back e f = absurd cc

-- ---- what is true of a store that goes on

module _ (plan : Plan) (hooks : Hooks) (number : ℕ) (focus stopped : Bool) (was : List InstanceState) (placed since : ℕ) (is : IsStore (record { plan = plan; number = number; focus = focus; ranks = hooks.ranks.value.items; held = was; placed = placed; date = since; stopped = stopped })) (are : AreHooks plan hooks.events.items hooks.windows.items)
    (order : AreOrdered plan focus hooks.ranks.value.items hooks.events.items) (holding : Holding) (found : List Recognition) (d : ℕ) where
  pub tidy_at_mark : d ≤ 2 ^ 42 → IsTidyHolding plan focus hooks holding d → AllOf plan (founds plan found) → IsStore (record { plan = plan; number = number; focus = focus; ranks = hooks.ranks.value.items; held = held_in plan holding.slots found; placed = length (members holding.slots.slots); date = d; stopped = stopped }) × AreHooks plan hooks.events.items hooks.windows.items
      × AreOrdered plan focus hooks.ranks.value.items hooks.events.items × (stopped ≡ false → IsTidyHolding plan focus hooks holding d)
  tidy_at_mark small tidy all = (record { proper = is.proper; instances = all_append (IsOf plan) (members holding.slots.slots) (founds plan found) (tidy_all plan focus hooks holding d tidy) all; early = small; flat = is.flat }, are, order, λ e. tidy)

-- what was kept, of what is held
pub founds_of : (plan : Plan) (slots : SlotsState) (found : List Recognition) → AllOf plan (held_in plan slots found) → AllOf plan (founds plan found)
founds_of plan slots found all = all_right (IsOf plan) (members slots.slots) (founds plan found) all

-- ---- how many have places

-- where all have, nothing was kept without one
nothing_kept : (plan : Plan) (slots : SlotsState) (found : List Recognition) → length (members slots.slots) ≡ length (held_in plan slots found) → found ≡ []
nothing_kept plan slots found e = nil_from_length found (let a = length-append (members slots.slots) (founds plan found) in let b = length-map found (found_state plan) in omega arith)

-- all have places where nothing was kept
pub all_placed : (plan : Plan) (slots : SlotsState) (found : List Recognition) → found ≡ [] → length (members slots.slots) ≡ length (held_in plan slots found)
all_placed plan slots found e = ap length (sym (append-nil (members slots.slots)) ∙ ap (λ (t : List Recognition). held_in plan slots t) (sym e))

pub still_placed : (plan : Plan) (old new : SlotsState) (was now : List Recognition) → now ≡ was → length (members old.slots) ≡ length (held_in plan old was) → length (members new.slots) ≡ length (held_in plan new now)
still_placed plan old new was now same e = all_placed plan new now (same ∙ nothing_kept plan old was e)

-- a bound by those in places is one by all
pub more_ticks : (events start now : ℕ) (plan : Plan) (slots : SlotsState) (found : List Recognition) → now ≤ start + 2 * events * length (members slots.slots) → now ≤ start + 2 * events * length (held_in plan slots found)
more_ticks events start now plan slots found few =
    let more = times_more (2 * events) (length (members slots.slots)) (length (held_in plan slots found)) (let a = length-append (members slots.slots) (founds plan found) in omega arith) in
    omega arith

-- one alone in a place is all that is held
pub held_alone : (plan : Plan) (slots : SlotsState) (found : List Recognition) (i : InstanceState) → found ≡ [] → members slots.slots ≡ i ∷ [] → held_in plan slots found ≡ i ∷ []
held_alone plan slots found i none is = ap (λ (rs : List Recognition). held_in plan slots rs) none ∙ append-nil (members slots.slots) ∙ is
