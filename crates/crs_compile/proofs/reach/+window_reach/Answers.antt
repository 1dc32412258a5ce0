use Rattle.std.proofs.Common.{map}
use Rattle.crs_stn.specs.Table.{most_of}
use Rattle.crs_model.specs.SeenModels.{anchor_of, window_of}
use Rattle.crs_compile.proofs.Spans.{starts_more}
use Rattle.crs_compile.proofs.reach.+window_reach.Goals as goal

pub returns-in-Some-clause-longest : goal.returns-in-Some-clause-longest
returns-in-Some-clause-longest t c = rw c.in-Some.ensures.cases.0
    (starts_more (most_of c.args.network.now) c.args.events (anchor_of c.in-Some.window.now.from) (map (λ w. w.from) (map window_of c.in-Some.rest.now)) c.furthest.result c.window_reach.result c.longer.result
    c.furthest.ensures.longest c.window_reach.ensures.longest c.longer.ensures)
