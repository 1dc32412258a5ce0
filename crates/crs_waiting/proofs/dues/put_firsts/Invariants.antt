use Rattle.crs_waiting.proofs.DuePairs.{AreFirstsTo}
use Rattle.crs_waiting.proofs.dues.put_firsts.Given as goal

abbrev pub invariant-loop-event : goal.invariant-loop-event
invariant-loop-event l = AreFirstsTo l.chart.plan l.chart.focus l.instance l.handle l.since l.event l.fn.calendar l.calendar
