use Rattle.crs_stn.specs.Table.{most_of}
use Rattle.crs_model.specs.SeenModels.{anchor_of}
use Rattle.crs_compile.proofs.Spans.{furthest_none, furthest_more}
use Rattle.crs_compile.proofs.reach.furthest.Goals as goal

pub loop-event-init : goal.loop-event-init
loop-event-init c = furthest_none (most_of c.args.network.now) (anchor_of c.args.from)

pub loop-event-preserved : goal.loop-event-preserved
loop-event-preserved c =
    furthest_more (most_of c.args.network.now) (anchor_of c.args.from) c.loop-event.event c.loop-event.reach c.span.result c.longer-reach.result c.span.ensures.value c.span.ensures.small c.longer-reach.ensures c.loop-event.invariant
