use Rattle.std.proofs.Common.{rules, Bool, List, ℕ, sym, subst, ◌∙◌}
use Rattle.std.specs.Prelude.{Some, None, cond}
use Rattle.std.proofs.lemmas.Result.{on_ok_weaker}
use Rattle.crs_base.specs.Seen.{entry_of}
use Rattle.crs_base.specs.declared.entry.Entry.{Entry as CodeEntry}
use Rattle.crs_base.specs.Words.{IsIn}
use Rattle.crs_store.specs.Agreeing.{IsTaken}
use Rattle.crs_waiting.specs.Orders.{IsOvertaken}
use Rattle.crs_store.specs.Forkings.{AreSought, AreForksOfPlaces, AreForksOfEvent}
use Rattle.crs_store.proofs.Births.{brings_as, brings_none}
use Rattle.crs_store.proofs.Gathered.{have_window, sought_kept, all_found, none_held, none_taken, none_waits}
use Rattle.crs_store.proofs.Overtaken.{held_back}
use Rattle.crs_store.proofs.scanning.candidates.forks_of_event.Goals as goal

pub note_sought-requires-clause-windows : goal.note_sought-requires-clause-windows
note_sought-requires-clause-windows g c = have_window c.args.arrival.now.plan.now c.requires.arrival.proper c.args.slots.now c.requires.of c.args.sought.event c.requires.event

pub returns-then-len-eq0-clause-forks : goal.returns-then-len-eq0-clause-forks
returns-then-len-eq0-clause-forks g c =
    let a = c.args.arrival.now in
    let x = entry_of a.entry.now.value in
    brings_none a.plan.now a.focus a.finds a.until (AreForksOfEvent a.plan.now a.focus (IsOvertaken a.plan.now a.focus a.hooks.now.events.items a.skips x) a.history.now x a.since a.until c.args.slots.now c.args.sought.event) c.args.out.now.instances.items c.args.out.now.found.items
    (none_held a.plan.now a.focus (IsOvertaken a.plan.now a.focus a.hooks.now.events.items a.skips x) a.history.now x a.since a.until c.args.slots.now c.args.sought.event c.requires.arrival.proper c.requires.of c.requires.event c.args.sought.hook.now c.requires.hook (sym c.len.ensures.count ∙ c.if-len-eq0.true))

pub returns-then-comes_to_none-clause-forks : goal.returns-then-comes_to_none-clause-forks
returns-then-comes_to_none-clause-forks g c =
    let a = c.args.arrival.now in
    let x = entry_of a.entry.now.value in
    let none = c.comes_to_none.ensures c.if-comes_to_none.true in
    brings_none a.plan.now a.focus a.finds a.until (AreForksOfEvent a.plan.now a.focus (IsOvertaken a.plan.now a.focus a.hooks.now.events.items a.skips x) a.history.now x a.since a.until c.args.slots.now c.args.sought.event) c.args.out.now.instances.items c.args.out.now.found.items
    (none_waits a.plan.now a.focus (IsOvertaken a.plan.now a.focus a.hooks.now.events.items a.skips x) a.history.now x a.since a.until c.args.slots.now c.args.sought.event c.requires.arrival.proper c.requires.of c.requires.event c.args.sought.hook.now c.requires.hook c.args.waiting.now a.skips
    (held_back a.plan.now a.focus a.hooks.now.ranks.value.items a.hooks.now.events.items c.requires.arrival.order x a.skips c.args.sought.event c.args.sought.hook.now c.requires.same)
    c.requires.linked none.0 none.1)

pub returns-then-not-takes-clause-forks : goal.returns-then-not-takes-clause-forks
returns-then-not-takes-clause-forks g c =
    let a = c.args.arrival.now in
    let x = entry_of a.entry.now.value in
    let taken : IsTaken a.plan.now c.args.sought.event x None = subst (λ (e : CodeEntry). IsTaken a.plan.now c.args.sought.event (entry_of e) None) c.deref-2.ensures
    (subst (λ (b : Bool). IsTaken a.plan.now c.args.sought.event (entry_of c.deref-2.result.now) (cond b (Some c.takes.new.symbols) None)) c.if-not-takes.true c.takes.ensures.taken) in
    brings_none a.plan.now a.focus a.finds a.until (AreForksOfEvent a.plan.now a.focus (IsOvertaken a.plan.now a.focus a.hooks.now.events.items a.skips x) a.history.now x a.since a.until c.args.slots.now c.args.sought.event) c.args.out.now.instances.items c.args.out.now.found.items
    (none_taken a.plan.now a.focus (IsOvertaken a.plan.now a.focus a.hooks.now.events.items a.skips x) a.history.now x a.since a.until c.args.slots.now c.args.sought.event c.requires.arrival.proper c.requires.of c.requires.event c.args.sought.hook.now c.requires.hook taken)

pub returns-clause-forks : goal.returns-clause-forks
returns-clause-forks g c =
    let x = entry_of c.args.arrival.now.entry.now.value in
    let skips = c.args.arrival.now.skips in
    let hook = c.args.sought.hook.now in
    let found = c.note_sought.new.places.items in
    let sought : AreSought c.args.slots.now c.args.waiting.now hook skips x.args c.args.sought.event x.date c.takes.new.symbols found = search rules in
    let still : (p : ℕ) → IsIn p found → IsIn p c.as_slice-places.result.now = (λ p i. subst (λ (ps : List ℕ). IsIn p ps) (sym c.as_slice-places.ensures.value) (c.sort_places.ensures.kept p i)) in
    let places = c.as_slice-places.result.now in
    let taken : IsTaken c.args.arrival.now.plan.now c.args.sought.event x (Some c.takes.new.symbols) = subst (λ (e : CodeEntry). IsTaken c.args.arrival.now.plan.now c.args.sought.event (entry_of e) (Some c.takes.new.symbols)) c.deref-2.ensures
    (subst (λ (b : Bool). IsTaken c.args.arrival.now.plan.now c.args.sought.event (entry_of c.deref-2.result.now) (cond b (Some c.takes.new.symbols) None)) c.if-not-takes.false c.takes.ensures.taken) in
    on_ok_weaker c.forks_at.result
    (brings_as c.args.arrival.now.plan.now c.args.arrival.now.focus c.args.arrival.now.finds c.args.arrival.now.until (AreForksOfPlaces c.args.arrival.now.plan.now c.args.arrival.now.focus (IsOvertaken c.args.arrival.now.plan.now c.args.arrival.now.focus c.args.arrival.now.hooks.now.events.items c.args.arrival.now.skips x) c.args.arrival.now.history.now x c.args.arrival.now.since c.args.arrival.now.until c.args.slots.now c.args.sought.event places) (AreForksOfEvent c.args.arrival.now.plan.now c.args.arrival.now.focus (IsOvertaken c.args.arrival.now.plan.now c.args.arrival.now.focus c.args.arrival.now.hooks.now.events.items c.args.arrival.now.skips x) c.args.arrival.now.history.now x c.args.arrival.now.since c.args.arrival.now.until c.args.slots.now c.args.sought.event) c.args.out.now.instances.items c.forks_at.new.out.instances.items c.args.out.now.found.items c.forks_at.new.out.found.items
    (λ more d. all_found c.args.arrival.now.plan.now c.args.arrival.now.focus (IsOvertaken c.args.arrival.now.plan.now c.args.arrival.now.focus c.args.arrival.now.hooks.now.events.items c.args.arrival.now.skips x) c.args.arrival.now.history.now x c.args.arrival.now.since c.args.arrival.now.until c.args.slots.now c.args.sought.event c.requires.arrival.proper c.requires.of c.requires.event c.args.sought.hook.now c.requires.hook c.takes.new.symbols taken c.args.waiting.now skips places more
    (held_back c.args.arrival.now.plan.now c.args.arrival.now.focus c.args.arrival.now.hooks.now.ranks.value.items c.args.arrival.now.hooks.now.events.items c.requires.arrival.order x skips c.args.sought.event hook c.requires.same)
    c.requires.linked (sought_kept c.args.slots.now c.args.waiting.now hook skips x.args c.args.sought.event x.date c.takes.new.symbols found places still sought) d))
    c.forks_at.ensures.forks
