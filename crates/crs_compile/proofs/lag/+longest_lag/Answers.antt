use Rattle.std.proofs.Common.{map}
use Rattle.crs_stn.specs.Table.{most_of}
use Rattle.crs_model.specs.SeenModels.{window_of, emit_of}
use Rattle.crs_compile.proofs.Lags.{lags_more}
use Rattle.crs_compile.proofs.lag.+longest_lag.Goals as goal

pub returns-in-Some-clause-longest : goal.returns-in-Some-clause-longest
returns-in-Some-clause-longest t c = rw c.in-Some.ensures.cases.0
    (lags_more c.args.events (most_of c.args.network.now) (map (λ w. w.to) (map window_of c.args.windows.now)) c.in-Some.emit.now.event (map (λ e. e.event) (map emit_of c.in-Some.rest.now)) c.lag_at.result c.longest_lag.result c.longer.result
    c.lag_at.ensures.longest c.longest_lag.ensures.longest c.longer.ensures)
