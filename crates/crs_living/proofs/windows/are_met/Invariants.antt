use Rattle.crs_living.specs.JudgedWindows.{IsMetTo}
use Rattle.crs_living.proofs.windows.are_met.Given as goal

abbrev pub invariant-loop-k : goal.invariant-loop-k
invariant-loop-k l = IsMetTo l.judging.plan.now l.judging.h l.instance l.k
