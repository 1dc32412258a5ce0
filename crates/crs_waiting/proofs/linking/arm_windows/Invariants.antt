use Rattle.crs_waiting.proofs.Linked.{AreArmedTo}
use Rattle.crs_waiting.proofs.linking.arm_windows.Given as goal

abbrev pub invariant-loop-k : goal.invariant-loop-k
invariant-loop-k l = AreArmedTo l.chart.plan l.chart.hooks.windows.items l.handle l.since l.h l.instance l.k l.fn.waiting l.waiting
