use Rattle.std.proofs.Common.{rules, ◌≡◌, ◌+◌, drop, get_or}
use Rattle.std.specs.Prelude.{Some, None}
use Rattle.std.proofs.lemmas.List.{drop_more, drop_all}
use Rattle.crs_base.proofs.Words.{in_from_each}
use Rattle.crs_base.specs.Seen.{entry_of}
use Rattle.crs_instance.specs.Instances.{IsOf}
use Rattle.crs_waiting.specs.Orders.{IsOvertaken}
use Rattle.crs_living.specs.Slots.{members, slot_at}
use Rattle.crs_store.proofs.Births.{brings_swept_none, brings_swept_more, brings_swept_whole}
use Rattle.crs_store.proofs.Gathered.{ascends_from, swept_skip, swept_next, swept_within}
use Rattle.crs_living.proofs.Members.{at_member}
use Rattle.crs_store.proofs.scanning.candidates.forks_at.Goals as goal

pub push_forks-requires-clause-of : goal.push_forks-requires-clause-of
push_forks-requires-clause-of g c =
    let p = get_or c.args.places.now c.loop-place.place-index 0 in
    let here : slot_at c.args.slots.now p ≡ Some c.in-Some.instance.now = search rules in
    in_from_each (IsOf c.args.arrival.now.plan.now) (members c.args.slots.now.slots) c.requires.of c.in-Some.instance.now (at_member c.args.slots.now.slots p c.in-Some.instance.now here)

pub returns-in_err-push_forks-clause-cost : goal.returns-in_err-push_forks-clause-cost
returns-in_err-push_forks-clause-cost g c =
    let n = c.loop-place.place-index in
    let p = get_or c.args.places.now n 0 in
    let here : slot_at c.args.slots.now p ≡ Some c.in-Some.instance.now = search rules in
    let more = drop_more c.args.places.now n 0 (search rules) in
    let a = ascends_from c.args.places.now n c.requires.ordered p (drop (n + 1) c.args.places.now) more in
    swept_next c.args.arrival.now.plan.now c.args.arrival.now.focus (IsOvertaken c.args.arrival.now.plan.now c.args.arrival.now.focus c.args.arrival.now.hooks.now.events.items c.args.arrival.now.skips (entry_of c.args.arrival.now.entry.now.value)) c.args.arrival.now.history.now (entry_of c.args.arrival.now.entry.now.value) c.args.arrival.now.since c.args.arrival.now.until c.args.slots.now c.args.event c.args.places.now p (drop n c.args.places.now) (drop (n + 1) c.args.places.now) c.in-Some.instance.now c.loop-place.invariant.more c.args.steps.now c.loop-place.steps c.push_forks.new.steps
    more a.0 a.1 here c.push_forks.ensures.cost c.loop-place.invariant.swept

pub loop-place-preserved : goal.loop-place-preserved
loop-place-preserved g c =
    let n = c.loop-place.place-index in
    let p = get_or c.args.places.now n 0 in
    let here : slot_at c.args.slots.now p ≡ Some c.in-Some.instance.now = search rules in
    let more = drop_more c.args.places.now n 0 (search rules) in
    let a = ascends_from c.args.places.now n c.requires.ordered p (drop (n + 1) c.args.places.now) more in
    brings_swept_more c.args.arrival.now.plan.now c.args.arrival.now.focus c.args.arrival.now.finds (IsOvertaken c.args.arrival.now.plan.now c.args.arrival.now.focus c.args.arrival.now.hooks.now.events.items c.args.arrival.now.skips (entry_of c.args.arrival.now.entry.now.value)) c.args.arrival.now.history.now (entry_of c.args.arrival.now.entry.now.value) c.args.arrival.now.since c.args.arrival.now.until c.args.slots.now c.args.event c.args.places.now p (drop n c.args.places.now) (drop (n + 1) c.args.places.now) c.in-Some.instance.now c.args.out.now.instances.items c.loop-place.out.instances.items c.push_forks.new.out.instances.items c.args.out.now.found.items c.loop-place.out.found.items c.push_forks.new.out.found.items c.args.steps.now c.loop-place.steps c.push_forks.new.steps
    more a.0 a.1 here c.push_forks.ensures.cost ((c.in_ok-push_forks.ensures {u = tt}).forks) c.loop-place.invariant

pub loop-place-preserved-in_default : goal.loop-place-preserved-in_default
loop-place-preserved-in_default g c =
    let n = c.loop-place.place-index in
    let p = get_or c.args.places.now n 0 in
    let none : slot_at c.args.slots.now p ≡ None = search rules in
    let more = drop_more c.args.places.now n 0 (search rules) in
    let a = ascends_from c.args.places.now n c.requires.ordered p (drop (n + 1) c.args.places.now) more in
    record {
      more = c.loop-place.invariant.more;
      born = c.loop-place.invariant.born;
      swept = swept_skip c.args.arrival.now.plan.now c.args.arrival.now.focus (IsOvertaken c.args.arrival.now.plan.now c.args.arrival.now.focus c.args.arrival.now.hooks.now.events.items c.args.arrival.now.skips (entry_of c.args.arrival.now.entry.now.value)) c.args.arrival.now.history.now (entry_of c.args.arrival.now.entry.now.value) c.args.arrival.now.since c.args.arrival.now.until c.args.slots.now c.args.event c.args.places.now p (drop n c.args.places.now) (drop (n + 1) c.args.places.now) c.loop-place.invariant.more c.args.steps.now c.loop-place.steps
          more a.0 none c.loop-place.invariant.swept;
    }

pub returns-clause-forks : goal.returns-clause-forks
returns-clause-forks g c =
    brings_swept_whole c.args.arrival.now.plan.now c.args.arrival.now.focus c.args.arrival.now.finds (IsOvertaken c.args.arrival.now.plan.now c.args.arrival.now.focus c.args.arrival.now.hooks.now.events.items c.args.arrival.now.skips (entry_of c.args.arrival.now.entry.now.value)) c.args.arrival.now.history.now (entry_of c.args.arrival.now.entry.now.value) c.args.arrival.now.since c.args.arrival.now.until c.args.slots.now c.args.event c.args.places.now (drop c.loop-place.place-index c.args.places.now) c.args.out.now.instances.items c.loop-place.out.instances.items c.args.out.now.found.items c.loop-place.out.found.items c.args.steps.now c.loop-place.steps
    (drop_all c.loop-place.place-index c.args.places.now (search rules)) c.loop-place.invariant

pub loop-place-init : goal.loop-place-init
loop-place-init g c = brings_swept_none c.args.arrival.now.plan.now c.args.arrival.now.focus c.args.arrival.now.finds (IsOvertaken c.args.arrival.now.plan.now c.args.arrival.now.focus c.args.arrival.now.hooks.now.events.items c.args.arrival.now.skips (entry_of c.args.arrival.now.entry.now.value)) c.args.arrival.now.history.now (entry_of c.args.arrival.now.entry.now.value) c.args.arrival.now.since c.args.arrival.now.until c.args.slots.now c.args.event c.args.places.now c.args.out.now.instances.items c.args.out.now.found.items c.args.steps.now

pub returns-clause-cost : goal.returns-clause-cost
returns-clause-cost g c =
    swept_within c.args.arrival.now.plan.now c.args.arrival.now.focus (IsOvertaken c.args.arrival.now.plan.now c.args.arrival.now.focus c.args.arrival.now.hooks.now.events.items c.args.arrival.now.skips (entry_of c.args.arrival.now.entry.now.value)) c.args.arrival.now.history.now (entry_of c.args.arrival.now.entry.now.value) c.args.arrival.now.since c.args.arrival.now.until c.args.slots.now c.args.event c.args.places.now (drop c.loop-place.place-index c.args.places.now) c.loop-place.invariant.more c.args.steps.now c.loop-place.steps
    (rw (drop_all c.loop-place.place-index c.args.places.now (search rules)) tt) c.loop-place.invariant.swept
