use Rattle.std.proofs.Common.{vec_len, map}
use Rattle.crs_base.specs.Seen.{entry_of}
use Rattle.crs_living.specs.Ahead.{MayGo}
use Rattle.crs_store.proofs.Registering.{IsHeldTo}
use Rattle.crs_store.proofs.holding.hold_all.Given as goal

abbrev pub invariant-loop-instance : goal.invariant-loop-instance
invariant-loop-instance l = IsHeldTo l.chart.plan l.chart.focus l.chart.hooks l.birth.h (MayGo l.chart.plan l.chart.focus (map (λ r. entry_of r.value) l.birth.ahead.now) l.birth.beyond) l.birth.finds l.fn.holding l.fn.born.found.items l.fn.born.instances.items l.born.instances.items l.holding l.born.found.items

abbrev pub decreases-loop-instance : goal.decreases-loop-instance
decreases-loop-instance l = vec_len l.born.instances
