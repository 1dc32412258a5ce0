use Rattle.std.proofs.Common.{map}
use Rattle.crs_stn.specs.Table.{most_of}
use Rattle.crs_model.specs.SeenModels.{window_of}
use Rattle.crs_compile.proofs.Lags.{emit_joined}
use Rattle.crs_compile.proofs.lag.lag_at.Goals as goal

pub returns-clause-longest : goal.returns-clause-longest
returns-clause-longest c =
    emit_joined c.args.events (most_of c.args.network.now) (map (λ w. w.to) (map window_of c.args.windows.now)) c.args.event c.furthest.result c.furthest_end.result c.longer.result
    c.furthest.ensures.longest c.furthest_end.ensures.longest c.longer.ensures
