use Rattle.std.proofs.Common.{◌≡◌, ◌≤◌, ◌++◌, subst, refl, sym, None}
use Rattle.std.specs.List.{AllByRecursion}
use Rattle.crs_base.specs.Entry.{IsInKeyOrder}
use Rattle.crs_buffer.specs.Entries.{released, left}
use Rattle.crs_buffer.proofs.Sorted.{ascends, none_held, none_released, all_left, sorted_rest}
use Rattle.crs_buffer.proofs.buffer.Buffer.release_before.Goals as goal

pub returns-in_err-first-clause-sorted : goal.returns-in_err-first-clause-sorted
returns-in_err-first-clause-sorted c = subst IsInKeyOrder c.self.view_is (ascends (c.self.inside.set.keys ++ c.self.inside.queue.items)
    c.self.invariant)

pub returns-then-deref-h-clause-first : goal.returns-then-deref-h-clause-first
returns-then-deref-h-clause-first c =
    subst (λ es. None ≡ released es c.args.h) c.self.view_is
    (none_released (c.self.inside.set.keys ++ c.self.inside.queue.items) c.in_ok-first.first.now c.args.h (sym
    (c.in_ok-first.ensures {u = tt})) (subst (λ e. c.args.h ≤ e.date) c.deref.ensures c.if-deref-h.true))

pub returns-then-deref-h-clause-rest : goal.returns-then-deref-h-clause-rest
returns-then-deref-h-clause-rest c =
    subst (λ es. es ≡ left es c.args.h) c.self.view_is
    (all_left (c.self.inside.set.keys ++ c.self.inside.queue.items) c.in_ok-first.first.now c.args.h (sym
    (c.in_ok-first.ensures {u = tt})) (subst (λ e. c.args.h ≤ e.date) c.deref.ensures c.if-deref-h.true))

pub returns-then-deref-h-clause-sorted : goal.returns-then-deref-h-clause-sorted
returns-then-deref-h-clause-sorted c = subst IsInKeyOrder c.self.view_is (ascends (c.self.inside.set.keys ++ c.self.inside.queue.items)
    c.self.invariant)

pub returns-then-deref-h-clause-none : goal.returns-then-deref-h-clause-none
returns-then-deref-h-clause-none c = (
  (λ _. subst (λ es. AllByRecursion (λ e. c.args.h ≤ e.date) es) c.self.view_is
      (none_held c.args.h (c.self.inside.set.keys ++ c.self.inside.queue.items) c.in_ok-first.first.now (sym
      (c.in_ok-first.ensures {u = tt})) (subst (λ e. c.args.h ≤ e.date) c.deref.ensures c.if-deref-h.true)
      (ascends (c.self.inside.set.keys ++ c.self.inside.queue.items) c.self.invariant))),
  λ _. refl,
)

pub invariant_of-self-2 : goal.invariant_of-self-2
invariant_of-self-2 c = sorted_rest c.in_ok-held.held (c.take_first.new.set.keys ++ c.take_first.new.queue.items)
    (c.self.inside.set.keys ++ c.self.inside.queue.items) c.in_ok-held.ensures.taken c.self.invariant

pub returns-clause-sorted : goal.returns-clause-sorted
returns-clause-sorted c = ascends (c.take_first.new.set.keys ++ c.take_first.new.queue.items) (sorted_rest c.in_ok-held.held
    (c.take_first.new.set.keys ++ c.take_first.new.queue.items) (c.self.inside.set.keys ++ c.self.inside.queue.items)
    c.in_ok-held.ensures.taken c.self.invariant)
