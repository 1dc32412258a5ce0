use Rattle.crs_living.specs.Windows.{Begins}
use Rattle.crs_living.specs.JudgedWindows.{AreStepped}
use Rattle.crs_living.proofs.windows.begin_windows.Given as goal

abbrev pub invariant-loop-k : goal.invariant-loop-k
invariant-loop-k l = AreStepped (λ k q. Begins l.passing.judging.plan.now l.passing.history.now l.passing.since l.parent l.initial.fork k q) l.k l.initial.fork l.fork
