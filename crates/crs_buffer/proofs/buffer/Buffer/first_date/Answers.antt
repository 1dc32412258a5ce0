use Rattle.std.proofs.Common.{◌≤◌, ◌++◌, rules, subst, sym, ap, ◌∙◌, le_refl}
use Rattle.std.specs.Prelude.{Some, option_map, slice_get}
use Rattle.std.specs.List.{AllByRecursion}
use Rattle.crs_base.specs.Entry.{IsInKeyOrder}
use Rattle.crs_buffer.proofs.Sorted.{ascends, none_held, none_first, first_dated}
use Rattle.crs_buffer.proofs.buffer.Buffer.first_date.Goals as goal

pub returns-in_err-first-clause-none : goal.returns-in_err-first-clause-none
returns-in_err-first-clause-none c = (
  (λ _. sym c.self.view_is ∙ none_first (c.self.inside.set.keys ++ c.self.inside.queue.items) (sym (c.in_err-first.ensures {u = tt}))),
  λ _. search rules,
)

pub returns-clause-first : goal.returns-clause-first
returns-clause-first c =
    ap (λ e. Some e.date) c.deref.ensures
    ∙ first_dated (c.self.inside.set.keys ++ c.self.inside.queue.items) c.in_ok-first.first.now (sym (c.in_ok-first.ensures {u = tt}))
    ∙ ap (λ es. option_map (λ e. e.date) (slice_get es 0)) c.self.view_is

pub returns-clause-least : goal.returns-clause-least
returns-clause-least c =
    subst (λ es. AllByRecursion (λ e. c.deref.result.now.date ≤ e.date) es) c.self.view_is
    (none_held c.deref.result.now.date (c.self.inside.set.keys ++ c.self.inside.queue.items) c.in_ok-first.first.now (sym
    (c.in_ok-first.ensures {u = tt}))
    (subst (λ e. c.deref.result.now.date ≤ e.date) c.deref.ensures (le_refl c.deref.result.now.date)) (ascends
    (c.self.inside.set.keys ++ c.self.inside.queue.items) c.self.invariant))

pub returns-in_err-first-clause-in_order : goal.returns-in_err-first-clause-in_order
returns-in_err-first-clause-in_order c = subst IsInKeyOrder c.self.view_is (ascends (c.self.inside.set.keys ++ c.self.inside.queue.items) c.self.invariant)

pub returns-clause-in_order : goal.returns-clause-in_order
returns-clause-in_order c = subst IsInKeyOrder c.self.view_is (ascends (c.self.inside.set.keys ++ c.self.inside.queue.items) c.self.invariant)
