use Rattle.std.proofs.Common.{map, length}
use Rattle.std.proofs.lemmas.List.{length-map}
use Rattle.crs_stn.specs.Table.{most_of}
use Rattle.crs_model.specs.SeenModels.{window_of}
use Rattle.crs_compile.proofs.Spans.{reach_joined}
use Rattle.crs_compile.proofs.reach.reach_of.Goals as goal

pub returns-clause-reach : goal.returns-clause-reach
returns-clause-reach c = rw length-map
    (reach_joined (most_of c.args.network.now) (length c.args.chronicle.now.events) (map (λ w. w.from) (map window_of c.args.chronicle.now.windows)) c.event_reach.result c.window_reach.result c.longer.result
    (rw c.len-events.ensures at c.event_reach.ensures.longest) (rw (c.len-events.ensures, c.as_slice.ensures) at c.window_reach.ensures.longest) c.longer.ensures)
