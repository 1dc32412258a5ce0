use Rattle.std.proofs.Common.{arith, List, ◌≤◌, subst, sym, ap, ◌∙◌, ◌+◌, ◌++◌}
use Rattle.std.specs.List.{AllByRecursion}
use Rattle.crs_base.specs.declared.symbols.Sym.{Sym}
use Rattle.crs_base.specs.Entry.{Entry, IsInKeyOrder}
use Rattle.crs_base.specs.Seen.{entry_of}
use Rattle.crs_engine.specs.Engines.{EngineState, IsWaiting}
use Rattle.crs_engine.proofs.Order.{put_each}
use Rattle.crs_engine.proofs.Accepting.{new_key, waiting_more, fresh_more, in_order_more, accepted_from}
use Rattle.crs_engine.proofs.engine.Engine.accept.Goals as goal

pub invariant_of-self : goal.invariant_of-self
invariant_of-self c =
    let next = c.requires.next ∙ sym (ap (λ (e : EngineState). e.accepted) c.self.view_is) in
    let put = (c.in-Ok.ensures {u = tt}).ok (new_key c.self.inside.accepted c.self.inside.entries.buffer (entry_of c.args.entry) next c.self.invariant.0.waiting) in (
      record {
        stores = c.self.invariant.0.stores;
        waiting = subst (λ (t : List (Entry Sym)). AllByRecursion (IsWaiting (c.self.inside.accepted + 1)) t)
            (sym put)
            (waiting_more c.self.inside.accepted c.self.inside.entries.buffer (entry_of c.args.entry) next c.requires.date c.self.invariant.0.waiting);
        limited = c.self.invariant.0.limited;
        few = (let few = c.self.invariant.0.few in let not_full = c.if-self-2.false in omega arith);
        not_late = c.self.invariant.0.not_late;
        in_order = subst (λ (t : List (Entry Sym)). IsInKeyOrder (c.self.inside.entries.history.entries ++ t)) (sym put)
            (in_order_more c.self.inside.entries.history.entries c.self.inside.entries.buffer (entry_of c.args.entry) c.self.inside.horizon c.self.invariant.0.in_order (c.self.invariant.0.settled c.if-self.false) c.if-entry-self.false
            (subst IsInKeyOrder put ((c.in-Ok.ensures {u = tt}).sorted)));
        reach = c.self.invariant.0.reach;
        small = c.self.invariant.0.small;
        due = subst (λ (t : List (Entry Sym)). AllByRecursion (λ x. c.self.inside.horizon ≤ x.date) t) (sym put)
            (put_each (entry_of c.args.entry) (λ x. c.self.inside.horizon ≤ x.date) c.self.inside.entries.buffer c.if-entry-self.false c.self.invariant.0.due);
        least = c.self.invariant.0.least;
        needed = c.self.invariant.0.needed;
        settled = c.self.invariant.0.settled;
        fresh = λ running. subst (λ (t : List (Entry Sym)). AllByRecursion (IsWaiting (c.self.inside.accepted + 1)) t) (sym ((c.in-Ok.ensures {u = tt}).fresh (new_key c.self.inside.accepted c.self.inside.fresh (entry_of c.args.entry) next (c.self.invariant.0.fresh running))))
            (fresh_more c.self.inside.prompt c.self.inside.accepted c.self.inside.fresh (entry_of c.args.entry) next c.requires.date (c.self.invariant.0.fresh running));
      },
      c.self.invariant.1,
      c.self.invariant.2,
    )

pub returns-in-Ok-clause-stands : goal.returns-in-Ok-clause-stands
returns-in-Ok-clause-stands c =
    let next = c.requires.next ∙ sym (ap (λ (e : EngineState). e.accepted) c.self.view_is) in
    accepted_from
    (record { plans = c.self.inside.plans; stores = c.self.inside.stores.items; history = c.self.inside.entries.history; waiting = c.self.inside.entries.buffer; fresh = c.self.inside.fresh; delay = c.self.inside.delay; last = c.self.inside.last; horizon = c.self.inside.horizon; accepted = c.self.inside.accepted; marked = c.self.inside.marked; limit = c.self.inside.limit; focus = c.self.inside.focus; stopped = c.self.inside.stopped })
    c.args.self.now (entry_of c.args.entry) c.hold.new.buffer c.hold.new.fresh c.self.inside.prompt c.self.view_is next c.if-entry-self.false
    ((c.in-Ok.ensures {u = tt}).ok (new_key c.self.inside.accepted c.self.inside.entries.buffer (entry_of c.args.entry) next c.self.invariant.0.waiting))
    ((c.in-Ok.ensures {u = tt}).sorted) c.self.invariant.1.prompt_is
    ((c.in-Ok.ensures {u = tt}).fresh (new_key c.self.inside.accepted c.self.inside.fresh (entry_of c.args.entry) next (c.self.invariant.0.fresh c.if-self.false)))
