use Rattle.std.proofs.Common.{◌≡◌, ℕ, suc, ◌-◌, ◌++◌, length, take, refl, sym, subst, ◌∙◌, arith}
use Rattle.std.specs.Prelude.{Some, slice_get}
use Rattle.crs_buffer.specs.Queues.{ComesAfter}
use Rattle.crs_buffer.proofs.Queued.{got, behind_queued, behind_set, taken_queued, taken_set}
use Rattle.crs_buffer.proofs.queue.compare_before.Goals as goal

pub returns-in-Some-clause-greater : goal.returns-in-Some-clause-greater
returns-in-Some-clause-greater c = λ g.
    let some = c.if-place-gt0.true in
    let within = c.requires.within in
    let e : slice_get c.args.queue.now.items (c.args.place - 1) ≡ Some c.in-Some.other.now = got c.args.queue.now.items
    (c.args.place - 1) c.in-Some.other.now (omega arith) c.in-Some.ensures.lookup in
    let same : suc (c.args.place - 1) ≡ c.args.place = omega arith in
    subst (λ (n : ℕ). ComesAfter c.args.held.now (c.args.set.now.keys ++ take n c.args.queue.now.items)) same
    (behind_queued c.args.held.now c.in-Some.other.now c.args.set.now.keys c.args.queue.now.items (c.args.place - 1) c.requires.sorted e
    (sym c.cmp.ensures ∙ g))

pub returns-in-Some-clause-equal : goal.returns-in-Some-clause-equal
returns-in-Some-clause-equal c = λ g.
    let some = c.if-place-gt0.true in
    let within = c.requires.within in
    let e : slice_get c.args.queue.now.items (c.args.place - 1) ≡ Some c.in-Some.other.now = got c.args.queue.now.items
    (c.args.place - 1) c.in-Some.other.now (omega arith) c.in-Some.ensures.lookup in
    taken_queued c.args.held.now c.in-Some.other.now c.args.set.now.keys c.args.queue.now.items (c.args.place - 1) e (sym c.cmp.ensures
    ∙ g)

pub returns-in-Some-last-clause-greater : goal.returns-in-Some-last-clause-greater
returns-in-Some-last-clause-greater c = λ g.
    let none = c.if-place-gt0.false in
    let zero_is : 0 ≡ c.args.place = omega arith in
    subst (λ (n : ℕ). ComesAfter c.args.held.now (c.args.set.now.keys ++ take n c.args.queue.now.items)) zero_is
    (behind_set c.args.held.now c.in-Some-last.other.now c.args.set.now.keys c.args.queue.now.items c.requires.sorted
    (c.in-Some-last.ensures.variant.0 refl) c.in-Some-last.ensures.last (sym c.cmp-in-Some-last.ensures ∙ g))

pub returns-in-Some-last-clause-equal : goal.returns-in-Some-last-clause-equal
returns-in-Some-last-clause-equal c = λ g.
    taken_set c.args.held.now c.in-Some-last.other.now c.args.set.now.keys c.args.queue.now.items (length c.args.set.now.keys - 1)
    c.in-Some-last.ensures.last (sym c.cmp-in-Some-last.ensures ∙ g)
