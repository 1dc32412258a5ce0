use Rattle.std.specs.List.{AllByRecursion}
use Rattle.std.proofs.Common.{rules, List, map, ℕ, ◌≤◌, subst, sym, ap, true, le_refl}
use Rattle.crs_store.specs.Stores.{StoreState}
use Rattle.crs_base.proofs.Alls.{all_each}
use Rattle.crs_engine.specs.Engines.{EngineState, IsEngine, IsWaiting, plans_of}
use Rattle.crs_engine.specs.Concerns.{TellsAll}
use Rattle.crs_engine.specs.Marks.{AfterMark}
use Rattle.crs_engine.specs.Moves.{AreSameStores, AreMarked, HasRanks}
use Rattle.crs_engine.proofs.Settling.{ranked_on}
use Rattle.crs_engine.proofs.Marking.{engine_on, rest_due, history_before, marked_from, written_back}
use Rattle.crs_engine.proofs.Forgetting.{waits_from_floor}
use Rattle.crs_engine.proofs.Passed.{told_of_stores}
use Rattle.crs_engine.proofs.engine.Engine.move_on.Goals as goal

pub invariant_of-self : goal.invariant_of-self
invariant_of-self g c =
    let same = subst (λ (t : List StoreState). AreSameStores t c.mark_all.new.stores) c.deref_mut.ensures.value c.mark_all.ensures.same in
    let back = written_back c.self.inside.stores.items c.mark_all.new.stores c.self.inside.stores.len (search rules) same in
    let forward : c.self.inside.horizon ≤ c.args.h = subst (λ (k : ℕ). k ≤ c.args.h) (sym (ap (λ (e : EngineState). e.horizon) c.self.view_is)) c.requires.forward in (
      subst (λ (t : List StoreState). IsEngine (record { plans = c.self.inside.plans; stores = t; history = c.mark_all.new.entries.history; waiting = c.mark_all.new.entries.buffer; fresh = c.mark_all.new.fresh; delay = c.self.inside.delay; last = c.args.t; horizon = c.args.h; accepted = c.self.inside.accepted; marked = c.self.inside.accepted; limit = c.self.inside.limit; focus = c.self.inside.focus; stopped = c.self.inside.stopped })) (sym back)
          (engine_on (record { plans = c.self.inside.plans; stores = c.self.inside.stores.items; history = c.self.inside.entries.history; waiting = c.self.inside.entries.buffer; fresh = c.self.inside.fresh; delay = c.self.inside.delay; last = c.self.inside.last; horizon = c.self.inside.horizon; accepted = c.self.inside.accepted; marked = c.self.inside.marked; limit = c.self.inside.limit; focus = c.self.inside.focus; stopped = c.self.inside.stopped })
          c.mark_all.new.stores c.mark_all.new.entries.history c.mark_all.new.entries.buffer c.mark_all.new.fresh c.args.t c.args.h c.self.inside.accepted c.self.inside.stopped c.self.invariant.0 same c.mark_all.ensures.rest c.requires.small
          c.mark_all.ensures.order c.mark_all.ensures.floor
          (λ running. history_before c.args.h c.self.inside.horizon c.self.inside.entries.history c.mark_all.new.entries.history c.deref_mut.result.now c.mark_all.new.stores c.self.inside.entries.buffer c.self.inside.fresh c.mark_all.new.entries.buffer c.args.mark c.in-Ok.answer (c.self.invariant.0.settled running) forward ((c.in-Ok.ensures {u = tt}).marked))
          forward ((c.in-Ok.ensures {u = tt}).marked).after (λ running. (c.in-Ok.ensures {u = tt}).none)),
      c.self.invariant.1,
      subst (AllByRecursion (HasRanks c.self.inside.names.ranks.value.items)) (sym back) (ranked_on c.self.inside.names.ranks.value.items c.self.inside.stores.items c.mark_all.new.stores same c.self.invariant.2),
    )

pub invariant_of-self-in-Err : goal.invariant_of-self-in-Err
invariant_of-self-in-Err g c =
    let same = subst (λ (t : List StoreState). AreSameStores t c.mark_all.new.stores) c.deref_mut.ensures.value c.mark_all.ensures.same in
    let back = written_back c.self.inside.stores.items c.mark_all.new.stores c.self.inside.stores.len (search rules) same in (
      subst (λ (t : List StoreState). IsEngine (record { plans = c.self.inside.plans; stores = t; history = c.mark_all.new.entries.history; waiting = c.mark_all.new.entries.buffer; fresh = c.mark_all.new.fresh; delay = c.self.inside.delay; last = c.self.inside.last; horizon = c.self.inside.horizon; accepted = c.self.inside.accepted; marked = c.self.inside.marked; limit = c.self.inside.limit; focus = c.self.inside.focus; stopped = true })) (sym back)
          (engine_on (record { plans = c.self.inside.plans; stores = c.self.inside.stores.items; history = c.self.inside.entries.history; waiting = c.self.inside.entries.buffer; fresh = c.self.inside.fresh; delay = c.self.inside.delay; last = c.self.inside.last; horizon = c.self.inside.horizon; accepted = c.self.inside.accepted; marked = c.self.inside.marked; limit = c.self.inside.limit; focus = c.self.inside.focus; stopped = c.self.inside.stopped })
          c.mark_all.new.stores c.mark_all.new.entries.history c.mark_all.new.entries.buffer c.mark_all.new.fresh c.self.inside.last c.self.inside.horizon c.self.inside.marked true c.self.invariant.0 same c.mark_all.ensures.rest c.self.invariant.0.not_late c.mark_all.ensures.order c.mark_all.ensures.floor (λ never. absurd cc)
          (le_refl c.self.inside.horizon) (rest_due c.self.inside.horizon c.self.inside.entries.buffer c.mark_all.new.entries.buffer c.self.invariant.0.due c.mark_all.ensures.rest) (λ never. absurd cc)),
      c.self.invariant.1,
      subst (AllByRecursion (HasRanks c.self.inside.names.ranks.value.items)) (sym back) (ranked_on c.self.inside.names.ranks.value.items c.self.inside.stores.items c.mark_all.new.stores same c.self.invariant.2),
    )

pub mark_all-requires-clause-due : goal.mark_all-requires-clause-due
mark_all-requires-clause-due g c =
    waits_from_floor
    (record { plans = c.self.inside.plans; stores = c.self.inside.stores.items; history = c.self.inside.entries.history; waiting = c.self.inside.entries.buffer; fresh = c.self.inside.fresh; delay = c.self.inside.delay; last = c.self.inside.last; horizon = c.self.inside.horizon; accepted = c.self.inside.accepted; marked = c.self.inside.marked; limit = c.self.inside.limit; focus = c.self.inside.focus; stopped = c.self.inside.stopped })
    c.self.invariant.0

pub returns-in-Ok-clause-marked : goal.returns-in-Ok-clause-marked
returns-in-Ok-clause-marked g c = λ settled waiting stands.
    let same = subst (λ (t : List StoreState). AreSameStores t c.mark_all.new.stores) c.deref_mut.ensures.value c.mark_all.ensures.same in
    let back = written_back c.self.inside.stores.items c.mark_all.new.stores c.self.inside.stores.len (search rules) same in
    subst (λ (t : List StoreState). AfterMark c.args.self.now (record { plans = c.self.inside.plans; stores = t; history = c.mark_all.new.entries.history; waiting = c.mark_all.new.entries.buffer; fresh = c.mark_all.new.fresh; delay = c.self.inside.delay; last = c.args.t; horizon = c.args.h; accepted = c.self.inside.accepted; marked = c.self.inside.accepted; limit = c.self.inside.limit; focus = c.self.inside.focus; stopped = c.self.inside.stopped }) c.args.mark settled waiting c.in-Ok.answer) (sym back)
    (marked_from (record { plans = c.self.inside.plans; stores = c.self.inside.stores.items; history = c.self.inside.entries.history; waiting = c.self.inside.entries.buffer; fresh = c.self.inside.fresh; delay = c.self.inside.delay; last = c.self.inside.last; horizon = c.self.inside.horizon; accepted = c.self.inside.accepted; marked = c.self.inside.marked; limit = c.self.inside.limit; focus = c.self.inside.focus; stopped = c.self.inside.stopped })
    c.args.self.now c.mark_all.new.stores c.mark_all.new.entries.history c.mark_all.new.entries.buffer c.mark_all.new.fresh c.args.t c.args.h c.self.inside.stopped c.args.mark c.in-Ok.answer c.self.view_is c.self.invariant.0
    (subst (λ (g : ℕ). g ≤ c.args.h) (sym (ap (λ (e : EngineState). e.horizon) c.self.view_is)) c.requires.forward)
    (subst (λ (t : List StoreState). AreMarked c.args.h c.args.mark t c.self.inside.entries.history c.self.inside.entries.buffer c.self.inside.fresh c.mark_all.new.stores c.mark_all.new.entries.history c.mark_all.new.entries.buffer c.in-Ok.answer) c.deref_mut.ensures.value ((c.in-Ok.ensures {u = tt}).marked))
    same c.mark_all.ensures.floor ((c.in-Ok.ensures {u = tt}).none) settled waiting stands)

pub mark_all-requires-clause-fresh : goal.mark_all-requires-clause-fresh
mark_all-requires-clause-fresh g c = all_each {P = IsWaiting c.self.inside.accepted} c.self.inside.fresh (λ x w. w.dated) (c.self.invariant.0.fresh (search rules))

pub mark_all-requires-clause-told : goal.mark_all-requires-clause-told
mark_all-requires-clause-told g c = subst (λ (t : List StoreState). TellsAll c.self.inside.names.concerned (map (λ s. s.plan) t)) (sym c.deref_mut.ensures.value) (told_of_stores c.self.inside.names.concerned c.self.inside.focus (plans_of c.self.inside.plans) c.self.inside.stores.items c.self.invariant.0.stores c.self.invariant.1.tells)

pub mark_all-requires-clause-ranks : goal.mark_all-requires-clause-ranks
mark_all-requires-clause-ranks g c =
    subst (λ (t : List StoreState). AllByRecursion (HasRanks c.self.inside.names.ranks.value.items) t) (sym c.deref_mut.ensures.value) c.self.invariant.2
