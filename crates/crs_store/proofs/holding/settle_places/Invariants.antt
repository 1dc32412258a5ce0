use Rattle.std.proofs.Common.{drop}
use Rattle.crs_store.proofs.Settling.{IsSettledBut}
use Rattle.crs_store.proofs.holding.settle_places.Given as goal

abbrev pub invariant-loop-place : goal.invariant-loop-place
invariant-loop-place l = IsSettledBut l.chart.plan l.chart.focus l.chart.hooks l.since l.h l.places (drop l.place-index l.places) l.fn.holding l.holding
