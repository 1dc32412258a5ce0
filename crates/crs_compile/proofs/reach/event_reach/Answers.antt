use Rattle.crs_stn.specs.Table.{most_of}
use Rattle.crs_compile.proofs.Spans.{pairs_none, pairs_more}
use Rattle.crs_compile.proofs.reach.event_reach.Goals as goal

pub loop-event-init : goal.loop-event-init
loop-event-init c = pairs_none (most_of c.args.network.now) c.args.events

pub loop-event-preserved : goal.loop-event-preserved
loop-event-preserved c =
    pairs_more (most_of c.args.network.now) c.loop-event.event c.args.events c.loop-event.reach c.furthest.result c.longer-reach.result (record { longest = c.furthest.ensures.longest; small = c.furthest.ensures.small }) c.longer-reach.ensures c.loop-event.invariant
