use Rattle.crs_waiting.specs.Dues.{StandsAround}
use Rattle.crs_waiting.proofs.DuePairs.{ArePutTo}
use Rattle.crs_waiting.proofs.dues.put_dues.Given as goal

abbrev pub invariant-loop-k : goal.invariant-loop-k
invariant-loop-k l = ArePutTo l.chart.plan l.chart.focus l.instance l.handle l.date l.k l.fn.calendar l.calendar × StandsAround l.last l.handle l.date l.calendar.pairs
