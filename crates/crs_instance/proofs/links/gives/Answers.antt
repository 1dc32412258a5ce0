use Rattle.std.proofs.Common.{ap, sym, ◌∙◌}
use Rattle.crs_base.specs.declared.entry.Entry.{Entry as CodeEntry}
use Rattle.crs_instance.proofs.Linked.{first_given, rest_given, none_given}
use Rattle.crs_instance.proofs.links.gives.Goals as goal

pub returns-then-deref-arrival-clause-present : goal.returns-then-deref-arrival-clause-present
returns-then-deref-arrival-clause-present c t n linked =
    let k = c.loop-here.invariant n linked in
    first_given n c.in-Link.known c.in-Link.event c.in-Link.entry c.in-Link.rest c.loop-here.here.now c.in-Link.is k.0 c.args.links.now c.args.arrival
    (ap (λ (e : CodeEntry). e.arrival) (sym c.deref.ensures) ∙ c.if-deref-arrival.true) k.1

pub loop-here-preserved : goal.loop-here-preserved
loop-here-preserved c n linked =
    let k = c.loop-here.invariant n linked in
    rest_given n c.in-Link.known c.in-Link.event c.in-Link.entry c.in-Link.rest c.loop-here.here.now c.in-Link.is k.0 c.args.links.now c.deref-here.result.now c.args.arrival c.deref-here.ensures
    (λ s. c.if-deref-arrival.false (ap (λ (e : CodeEntry). e.arrival) c.deref.ensures ∙ s)) k.1 k.2

pub returns-clause-absent : goal.returns-clause-absent
returns-clause-absent c t n f linked =
    none_given n _ c.loop-here.here.now c.args.links.now c.args.arrival f c.in_default.is (c.loop-here.invariant n linked).2
