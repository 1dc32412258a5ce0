use Rattle.std.proofs.Common.{arith}
use Rattle.std.specs.Option.{option_copied}
use Rattle.crs_instance.specs.Instances.{seen_entry}
use Rattle.crs_instance.specs.EntryLinks.{partial_of}
use Rattle.crs_instance.proofs.Linked.{linked_len, all_listed}
use Rattle.crs_instance.proofs.Pushes.{listed_more}
use Rattle.crs_instance.proofs.links.listed.Goals as goal

pub loop-event-preserved : goal.loop-event-preserved
loop-event-preserved c linked =
    let l = linked_len c.args.count c.args.links.now in
    listed_more (partial_of c.args.count c.args.links.now) c.loop-event.event (seen_entry (option_copied c.entry_at.result)) c.loop-event.all c.push_some.new.entries (omega arith)
    (c.entry_at.ensures.entry c.args.count linked) (c.in_ok-push_some.ensures {u = tt}) (c.loop-event.invariant linked)

pub returns : goal.returns
returns c linked = all_listed c.args.count c.loop-event.event c.args.links.now c.loop-event.all (omega arith) (c.loop-event.invariant linked)
