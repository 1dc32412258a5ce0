use Rattle.std.proofs.Common.{rules, ℕ, List, ◌≡◌, ◌+◌, ◌*◌, ◌≤◌, ◌∙◌, length, sym, ap, subst, arith}
use Rattle.std.proofs.Math.Nat.{mul-le-mul_right}
use Rattle.crs_base.specs.Seen.{entry_of}
use Rattle.crs_base.specs.declared.entry.Entry.{Entry as CodeEntry}
use Rattle.crs_model.specs.Bindings.{look_of}
use Rattle.crs_waiting.specs.declared.hooks.Hook.{Hook}
use Rattle.crs_waiting.specs.Hooks.{IsHookAt, key_of}
use Rattle.crs_store.specs.Forkings.{AreLinkedAt}
use Rattle.crs_waiting.specs.Links.{hook_at}
use Rattle.crs_waiting.specs.Named.{IsFirst}
use Rattle.crs_waiting.specs.Orders.{IsOvertaken}
use Rattle.crs_living.specs.Slots.{members}
use Rattle.crs_store.proofs.Births.{brings_gathered_none, brings_gathered_more, brings_gathered_all}
use Rattle.crs_store.proofs.Gathered.{hook_there, hooks_long, events_cost}
use Rattle.crs_store.proofs.Named.{brings_to_first}
use Rattle.crs_store.proofs.scanning.candidates.forks.Goals as goal

pub event_hook_in-hook-requires : goal.event_hook_in-hook-requires
event_hook_in-hook-requires g c =
    let long = hooks_long c.args.arrival.now.plan.now c.args.arrival.now.hooks.now.events.items c.requires.arrival.hooks.of_events in
    let same = ap length c.as_slice-hooks.ensures.value in
    let test = c.loop-event-test.true in omega arith

pub forks_of_event-requires-clause-event : goal.forks_of_event-requires-clause-event
forks_of_event-requires-clause-event g c =
    let long = hooks_long c.args.arrival.now.plan.now c.args.arrival.now.hooks.now.events.items c.requires.arrival.hooks.of_events in
    let same = ap length c.as_slice-hooks.ensures.value in
    let test = c.loop-event-test.true in omega arith

pub forks_of_event-requires-clause-hook : goal.forks_of_event-requires-clause-hook
forks_of_event-requires-clause-hook g c =
    let is = c.event_hook_in-hook.ensures ∙ ap (λ (hs : List Hook). hook_at hs c.loop-event.event) c.as_slice-hooks.ensures.value in
    subst (IsHookAt c.args.arrival.now.plan.now c.loop-event.event) (sym is) (hook_there c.args.arrival.now.plan.now c.args.arrival.now.hooks.now.events.items c.loop-event.event c.requires.arrival.hooks.of_events)

pub forks_of_event-requires-clause-same : goal.forks_of_event-requires-clause-same
forks_of_event-requires-clause-same g c = c.event_hook_in-hook.ensures ∙ ap (λ (hs : List Hook). hook_at hs c.loop-event.event) c.as_slice-hooks.ensures.value

pub returns-in_err-forks_of_event-clause-standing : goal.returns-in_err-forks_of_event-clause-standing
returns-in_err-forks_of_event-clause-standing g c = λ k p i s w. c.forks_of_event.ensures.standing k p i s (c.loop-event.invariant.standing k p i s w)

pub forks_of_event-requires-clause-linked : goal.forks_of_event-requires-clause-linked
forks_of_event-requires-clause-linked g c =
    let e = c.loop-event.event in
    let hooks = c.args.arrival.now.hooks.now.events.items in
    let is = c.event_hook_in-hook.ensures ∙ ap (λ (hs : List Hook). hook_at hs e) c.as_slice-hooks.ensures.value in
    subst (λ (h : Hook). AreLinkedAt c.args.arrival.now.plan.now c.args.arrival.now.focus h c.args.slots.now c.loop-event.waiting e c.args.arrival.now.entry.now.value.date) (sym is)
    (λ p i at_p next can. c.loop-event.invariant.standing (key_of e (hook_at hooks e) (look_of i.binding)) p i at_p (c.requires.linked p i at_p e next can))

pub returns-in_err-forks_of_event-clause-cost : goal.returns-in_err-forks_of_event-clause-cost
returns-in_err-forks_of_event-clause-cost g c = λ flat.
    let each = 2 * length (members c.args.slots.now.slots) in
    let long = hooks_long c.args.arrival.now.plan.now c.args.arrival.now.hooks.now.events.items c.requires.arrival.hooks.of_events in
    let same = ap length c.as_slice-hooks.ensures.value in
    let test = c.loop-event-test.true in
    let inside : c.loop-event.event + 1 ≤ length c.args.arrival.now.plan.now.chronicle.events = omega arith in
    let so_far = events_cost c.args.arrival.now.focus c.args.steps.now c.loop-event.steps c.forks_of_event.new.steps c.loop-event.event each c.loop-event.invariant.cost c.forks_of_event.ensures.cost flat in
    let all = mul-le-mul_right each inside in omega arith

pub loop-event-init : goal.loop-event-init
loop-event-init g c =
    let first : IsFirst c.args.arrival.now.hooks.now.events.items 0 (entry_of c.args.arrival.now.entry.now.value).name.0 c.first_of-event.result = subst (λ (y : CodeEntry). IsFirst c.args.arrival.now.hooks.now.events.items 0 y.name.0 c.first_of-event.result) c.deref.ensures c.first_of-event.ensures in
    record {
      gathered = brings_to_first c.args.arrival.now.plan.now c.args.arrival.now.focus c.args.arrival.now.finds (IsOvertaken c.args.arrival.now.plan.now c.args.arrival.now.focus c.args.arrival.now.hooks.now.events.items c.args.arrival.now.skips (entry_of c.args.arrival.now.entry.now.value)) c.args.arrival.now.history.now (entry_of c.args.arrival.now.entry.now.value) c.args.arrival.now.since c.args.arrival.now.until c.args.slots.now c.requires.arrival.proper c.requires.of c.args.arrival.now.hooks.now.events.items c.requires.arrival.hooks.of_events c.clear.new.self.items c.args.out.now.found.items c.args.out.now.found.items 0 c.first_of-event.result first
          (brings_gathered_none c.args.arrival.now.plan.now c.args.arrival.now.focus c.args.arrival.now.finds (IsOvertaken c.args.arrival.now.plan.now c.args.arrival.now.focus c.args.arrival.now.hooks.now.events.items c.args.arrival.now.skips (entry_of c.args.arrival.now.entry.now.value)) c.args.arrival.now.history.now (entry_of c.args.arrival.now.entry.now.value) c.args.arrival.now.since c.args.arrival.now.until c.args.slots.now c.clear.new.self.items c.args.out.now.found.items (search rules));
      fresh = λ k h f w. w;
      standing = λ k p i s w. w;
      cost = λ flat. omega arith;
      within = first.within;
      named = first.named;
    }

pub loop-event-preserved : goal.loop-event-preserved
loop-event-preserved g c =
    let e = c.loop-event.event in
    let each = 2 * length (members c.args.slots.now.slots) in
    let same = ap length c.as_slice-hooks.ensures.value in
    let test = c.loop-event-test.true in
    let name : (hook_at c.args.arrival.now.hooks.now.events.items e).name.0 ≡ (entry_of c.args.arrival.now.entry.now.value).name.0 = c.loop-event.invariant.named (omega arith) in
    let next : IsFirst c.args.arrival.now.hooks.now.events.items (e + 1) (entry_of c.args.arrival.now.entry.now.value).name.0 c.next_of-event.result = subst (λ (n : ℕ). IsFirst c.args.arrival.now.hooks.now.events.items (e + 1) n c.next_of-event.result) name c.next_of-event.ensures in
    record {
      gathered = brings_to_first c.args.arrival.now.plan.now c.args.arrival.now.focus c.args.arrival.now.finds (IsOvertaken c.args.arrival.now.plan.now c.args.arrival.now.focus c.args.arrival.now.hooks.now.events.items c.args.arrival.now.skips (entry_of c.args.arrival.now.entry.now.value)) c.args.arrival.now.history.now (entry_of c.args.arrival.now.entry.now.value) c.args.arrival.now.since c.args.arrival.now.until c.args.slots.now c.requires.arrival.proper c.requires.of c.args.arrival.now.hooks.now.events.items c.requires.arrival.hooks.of_events c.forks_of_event.new.out.instances.items c.args.out.now.found.items c.forks_of_event.new.out.found.items (e + 1) c.next_of-event.result next
          (brings_gathered_more c.args.arrival.now.plan.now c.args.arrival.now.focus c.args.arrival.now.finds (IsOvertaken c.args.arrival.now.plan.now c.args.arrival.now.focus c.args.arrival.now.hooks.now.events.items c.args.arrival.now.skips (entry_of c.args.arrival.now.entry.now.value)) c.args.arrival.now.history.now (entry_of c.args.arrival.now.entry.now.value) c.args.arrival.now.since c.args.arrival.now.until c.args.slots.now e c.loop-event.out.instances.items c.forks_of_event.new.out.instances.items c.args.out.now.found.items c.loop-event.out.found.items c.forks_of_event.new.out.found.items ((c.in_ok-forks_of_event.ensures {u = tt}).forks) c.loop-event.invariant.gathered);
      fresh = λ k h f w. c.forks_of_event.ensures.fresh k h f (c.loop-event.invariant.fresh k h f w);
      standing = λ k p i s w. c.forks_of_event.ensures.standing k p i s (c.loop-event.invariant.standing k p i s w);
      cost = λ flat.
          let so_far = events_cost c.args.arrival.now.focus c.args.steps.now c.loop-event.steps c.forks_of_event.new.steps e each c.loop-event.invariant.cost c.forks_of_event.ensures.cost flat in
          let more = mul-le-mul_right each next.after in omega arith;
      within = next.within;
      named = next.named;
    }

pub returns-clause-forks : goal.returns-clause-forks
returns-clause-forks g c =
    let long = hooks_long c.args.arrival.now.plan.now c.args.arrival.now.hooks.now.events.items c.requires.arrival.hooks.of_events in
    let same = ap length c.as_slice-hooks.ensures.value in
    let test = c.loop-event-test.false in
    let within = c.loop-event.invariant.within in
    let all : c.loop-event.event ≡ length c.args.arrival.now.plan.now.chronicle.events = omega arith in
    brings_gathered_all c.args.arrival.now.plan.now c.args.arrival.now.focus c.args.arrival.now.finds (IsOvertaken c.args.arrival.now.plan.now c.args.arrival.now.focus c.args.arrival.now.hooks.now.events.items c.args.arrival.now.skips (entry_of c.args.arrival.now.entry.now.value)) c.args.arrival.now.history.now (entry_of c.args.arrival.now.entry.now.value) c.args.arrival.now.since c.args.arrival.now.until c.args.slots.now c.requires.of c.loop-event.event c.loop-event.out.instances.items c.args.out.now.found.items c.loop-event.out.found.items all c.loop-event.invariant.gathered

pub returns-clause-cost : goal.returns-clause-cost
returns-clause-cost g c = λ flat.
    let long = hooks_long c.args.arrival.now.plan.now c.args.arrival.now.hooks.now.events.items c.requires.arrival.hooks.of_events in
    let within = c.loop-event.invariant.within in
    let inside : c.loop-event.event ≤ length c.args.arrival.now.plan.now.chronicle.events = omega arith in
    let so_far = c.loop-event.invariant.cost flat in
    let all = mul-le-mul_right (2 * length (members c.args.slots.now.slots)) inside in omega arith
