use Rattle.std.proofs.Common.{map}
use Rattle.crs_stn.specs.Table.{most_of}
use Rattle.crs_model.specs.SeenModels.{anchor_of, window_of}
use Rattle.crs_compile.proofs.Lags.{ends_more}
use Rattle.crs_compile.proofs.lag.+furthest_end.Goals as goal

pub returns-in-Some-clause-longest : goal.returns-in-Some-clause-longest
returns-in-Some-clause-longest t c = rw c.in-Some.ensures.cases.0
    (ends_more (most_of c.args.network.now) c.args.event (anchor_of c.in-Some.window.now.to) (map (λ w. w.to) (map window_of c.in-Some.rest.now)) c.end_span.result c.furthest_end.result c.longer.result
    c.end_span.ensures.value c.furthest_end.ensures.longest c.longer.ensures)
