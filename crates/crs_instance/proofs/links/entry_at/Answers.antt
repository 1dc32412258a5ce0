use Rattle.crs_instance.specs.EntryLinks.{partial_of}
use Rattle.crs_instance.proofs.Linked.{first_entry, other_entry, early_rest}
use Rattle.crs_instance.proofs.links.entry_at.Goals as goal

pub returns-then-bound-event-clause-entry : goal.returns-then-bound-event-clause-entry
returns-then-bound-event-clause-entry c = λ n linked.
    let k = c.loop-here.invariant.same n linked in
    first_entry n c.in-Link.known c.in-Link.bound c.in-Link.entry c.in-Link.rest c.loop-here.here.now c.in-Link.is k.0 c.args.event (partial_of n c.args.links.now) c.if-bound-event.true k.1

pub loop-here-preserved : goal.loop-here-preserved
loop-here-preserved c = record {
  same = λ n linked.
      let k = c.loop-here.invariant.same n linked in
      other_entry n c.in-Link.known c.in-Link.bound c.in-Link.entry c.in-Link.rest c.loop-here.here.now c.in-Link.is k.0 c.args.event (partial_of n c.args.links.now) c.deref-here.result.now c.deref-here.ensures c.if-bound-event.false k.1;
  early = λ early. early_rest c.in-Link.known c.in-Link.bound c.in-Link.entry c.in-Link.rest c.loop-here.here.now c.deref-here.result.now c.in-Link.is c.deref-here.ensures (c.loop-here.invariant.early early);
}
