use Rattle.std.proofs.Common.{subst, [], List, ℕ}
use Rattle.std.proofs.lemmas.Result.{on_ok_weaker}
use Rattle.crs_base.specs.Seen.{entry_of}
use Rattle.crs_base.specs.declared.entry.Entry.{Entry as CodeEntry}
use Rattle.crs_focus.specs.PlanLevels.{levels_in}
use Rattle.crs_living.specs.Scannings.{AreForksAt, IsDecided, IsKeptIfAble}
use Rattle.crs_instance.proofs.Forks.{made_of}
use Rattle.crs_living.proofs.Scanned.{adds_as, ended, flat_ends, started}
use Rattle.crs_store.proofs.Births.{brings_open}
use Rattle.crs_store.proofs.scanning.candidates.push_fork.Goals as goal

pub returns-then-not-arrival-clause-forks : goal.returns-then-not-arrival-clause-forks
returns-then-not-arrival-clause-forks g c =
    let plan = c.args.arrival.now.plan.now in
    let history = c.args.arrival.now.history.now in
    let x = entry_of c.args.arrival.now.entry.now.value in
    let focus = c.args.arrival.now.focus in
    let since = c.args.arrival.now.since in
    let until = c.args.arrival.now.until in
    let instance = c.args.instance.now in
    let event = c.args.event in
    let fork = c.args.fork in
    on_ok_weaker c.keep_fork.result
    (λ kept. brings_open plan focus c.args.arrival.now.finds until (AreForksAt plan focus history x since until instance event) c.args.out.now.instances.items c.keep_fork.new.out.items c.args.out.now.found.items
    (adds_as plan focus until (IsKeptIfAble plan focus history (entry_of c.deref.result.now) since until instance fork) (AreForksAt plan focus history x since until instance event) c.args.out.now.instances.items c.keep_fork.new.out.items
    (λ more k. started plan focus history x since until instance event c.requires.awaited fork c.requires.forked.1 more
    (ended plan focus history x since until instance fork (levels_in plan focus event) (flat_ends plan focus fork.partial (levels_in plan focus event) c.if-not-arrival.true) more
    (subst (λ (e : CodeEntry). IsKeptIfAble plan focus history (entry_of e) since until instance fork more) c.deref.ensures k))) kept))
    c.keep_fork.ensures

pub returns-clause-forks : goal.returns-clause-forks
returns-clause-forks g c =
    let plan = c.args.arrival.now.plan.now in
    let history = c.args.arrival.now.history.now in
    let x = entry_of c.args.arrival.now.entry.now.value in
    let focus = c.args.arrival.now.focus in
    let since = c.args.arrival.now.since in
    let until = c.args.arrival.now.until in
    let instance = c.args.instance.now in
    let event = c.args.event in
    let forked = made_of plan instance event x c.args.fork c.in_ok-next.next c.all_progress.result.now (c.in_ok-next.ensures {u = tt}) c.all_progress.ensures c.requires.forked in
    on_ok_weaker c.decide.result
    (λ decided. brings_open plan focus c.args.arrival.now.finds until (AreForksAt plan focus history x since until instance event) c.args.out.now.instances.items c.decide.new.out.items c.args.out.now.found.items
    (adds_as plan focus until (IsDecided plan focus history (entry_of c.deref.result.now) since until instance c.in_ok-next.next c.level_of-level.result c.new-todo.result.items) (AreForksAt plan focus history x since until instance event) c.args.out.now.instances.items c.decide.new.out.items
    (λ more d. started plan focus history x since until instance event c.requires.awaited c.in_ok-next.next forked.1 more
    (subst (λ (l : ℕ). IsDecided plan focus history x since until instance c.in_ok-next.next l [] more) c.level_of-level.ensures
    (subst (λ (todo : List ℕ). IsDecided plan focus history x since until instance c.in_ok-next.next c.level_of-level.result todo more) c.new-todo.ensures.items
    (subst (λ (e : CodeEntry). IsDecided plan focus history (entry_of e) since until instance c.in_ok-next.next c.level_of-level.result c.new-todo.result.items more) c.deref.ensures d)))) decided))
    c.decide.ensures.decided
