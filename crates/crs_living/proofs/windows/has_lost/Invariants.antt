use Rattle.crs_living.specs.JudgedWindows.{IsLostNowhere}
use Rattle.crs_living.proofs.windows.has_lost.Given as goal

abbrev pub invariant-loop-k : goal.invariant-loop-k
invariant-loop-k g l = IsLostNowhere l.judging.plan.now l.judging.h (g.D.Dated.seen l.dated) l.progress l.k
