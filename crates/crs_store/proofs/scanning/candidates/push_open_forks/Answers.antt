use Rattle.std.proofs.Common.{◌≡◌, ◌∙◌, refl, sym, subst, false, true, true≢false, Option}
use Rattle.std.proofs.lemmas.Result.{on_ok_weaker}
use Rattle.crs_base.specs.Seen.{entry_of}
use Rattle.crs_base.specs.declared.entry.Entry.{Entry as CodeEntry}
use Rattle.crs_instance.specs.Instances.{InstanceState, IsForked}
use Rattle.crs_instance.specs.Waits.{AnotherIsLate}
use Rattle.crs_focus.specs.PlanLevels.{levels_in}
use Rattle.crs_living.specs.Scannings.{AreForksAt}
use Rattle.crs_store.proofs.Births.{brings_none, brings_found}
use Rattle.crs_living.proofs.Scanned.{unawaited, too_late, unforked}
use Rattle.crs_store.proofs.scanning.candidates.push_open_forks.Goals as goal

never : false ≡ true → ⊥
never s = cc

pub returns-then-not-is_awaited-clause-forks : goal.returns-then-not-is_awaited-clause-forks
returns-then-not-is_awaited-clause-forks g c =
    let plan = c.args.arrival.now.plan.now in
    brings_none plan c.args.arrival.now.focus c.args.arrival.now.finds c.args.arrival.now.until (AreForksAt plan c.args.arrival.now.focus c.args.arrival.now.history.now (entry_of c.args.arrival.now.entry.now.value) c.args.arrival.now.since c.args.arrival.now.until c.args.instance.now c.args.event) c.args.out.now.instances.items c.args.out.now.found.items
    (unawaited plan c.args.arrival.now.focus c.args.arrival.now.history.now (entry_of c.args.arrival.now.entry.now.value) c.args.arrival.now.since c.args.arrival.now.until c.args.instance.now c.args.event (λ a. never ((c.if-not-is_awaited.ensures {u = tt}).1 a)))

pub can_wait_with-requires-clause-unbound : goal.can_wait_with-requires-clause-unbound
can_wait_with-requires-clause-unbound g c = ((c.if-not-is_awaited.ensures {u = tt}).0 refl).unbound

pub returns-then-not-can_wait_with-clause-forks : goal.returns-then-not-can_wait_with-clause-forks
returns-then-not-can_wait_with-clause-forks g c =
    let plan = c.args.arrival.now.plan.now in
    let x = entry_of c.args.arrival.now.entry.now.value in
    let awaited = (c.if-not-is_awaited.ensures {u = tt}).0 refl in
    let late = subst (λ (e : CodeEntry). AnotherIsLate plan (levels_in plan c.args.arrival.now.focus) c.args.instance.now.partial c.args.event e.date c.args.arrival.now.until) c.deref.ensures ((c.if-not-can_wait_with.ensures {u = tt}).no refl) in
    brings_none plan c.args.arrival.now.focus c.args.arrival.now.finds c.args.arrival.now.until (AreForksAt plan c.args.arrival.now.focus c.args.arrival.now.history.now x c.args.arrival.now.since c.args.arrival.now.until c.args.instance.now c.args.event) c.args.out.now.instances.items c.args.out.now.found.items
    (too_late plan c.args.arrival.now.focus c.args.arrival.now.history.now x c.args.arrival.now.since c.args.arrival.now.until c.args.instance.now c.args.event awaited late)

pub returns-in-None-clause-forks : goal.returns-in-None-clause-forks
returns-in-None-clause-forks g c =
    let plan = c.args.arrival.now.plan.now in
    let x = entry_of c.args.arrival.now.entry.now.value in
    brings_none plan c.args.arrival.now.focus c.args.arrival.now.finds c.args.arrival.now.until (AreForksAt plan c.args.arrival.now.focus c.args.arrival.now.history.now x c.args.arrival.now.since c.args.arrival.now.until c.args.instance.now c.args.event) c.args.out.now.instances.items c.args.out.now.found.items
    (unforked plan c.args.arrival.now.focus c.args.arrival.now.history.now x c.args.arrival.now.since c.args.arrival.now.until c.args.instance.now c.args.event
    (subst (λ (t : Option InstanceState). IsForked plan c.args.instance.now c.args.event x t) c.in-None.is (c.fork.ensures.fork)))

pub push_fork-requires-clause-awaited : goal.push_fork-requires-clause-awaited
push_fork-requires-clause-awaited g c = (c.if-not-is_awaited.ensures {u = tt}).0 refl

pub push_fork-requires-clause-forked : goal.push_fork-requires-clause-forked
push_fork-requires-clause-forked g c = subst (λ (t : Option InstanceState). IsForked c.args.arrival.now.plan.now c.args.instance.now c.args.event (entry_of c.args.arrival.now.entry.now.value) t) c.in-Some.is (c.fork.ensures.fork)

pub push_done-requires-clause-unbound : goal.push_done-requires-clause-unbound
push_done-requires-clause-unbound g c = ((c.if-not-is_awaited.ensures {u = tt}).0 refl).unbound

pub returns-then-lacks_only-clause-forks : goal.returns-then-lacks_only-clause-forks
returns-then-lacks_only-clause-forks g c =
    let a = c.args.arrival.now in
    let x = entry_of a.entry.now.value in
    let awaited = (c.if-not-is_awaited.ensures {u = tt}).0 refl in
    on_ok_weaker c.push_done.result
    (λ f. brings_found a.plan.now a.focus a.finds c.requires.arrival.proper (c.requires.arrival.windowless c.if-arrival.true) a.history.now x a.since a.until c.args.instance.now c.requires.of c.args.event awaited
    (sym (c.lacks_only.ensures x) ∙ c.if-lacks_only.true) (λ never. true≢false (sym c.if-arrival.true ∙ never)) c.args.out.now.instances.items c.args.out.now.found.items c.push_done.new.found.items f)
    c.push_done.ensures.found
