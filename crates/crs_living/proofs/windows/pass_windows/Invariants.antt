use Rattle.crs_instance.specs.Instances.{progress_at}
use Rattle.crs_living.specs.Windows.{Passes}
use Rattle.crs_living.specs.JudgedWindows.{AreStepped}
use Rattle.crs_living.proofs.windows.pass_windows.Given as goal

abbrev pub invariant-loop-k : goal.invariant-loop-k
invariant-loop-k l = AreStepped (λ k q. Passes l.passing.judging.plan.now l.passing.history.now l.passing.since l.passing.judging.h l.initial.instance.partial l.initial.instance.binding k (progress_at l.initial.instance.progress k) q) l.k l.initial.instance l.instance
