use Rattle.crs_base.specs.Seen.{entry_of}
use Rattle.crs_instance.specs.Instances.{progress_at}
use Rattle.crs_living.specs.Windows.{Settles}
use Rattle.crs_living.specs.JudgedWindows.{AreStepped}
use Rattle.crs_living.proofs.windows.settle_windows.Given as goal

abbrev pub invariant-loop-k : goal.invariant-loop-k
invariant-loop-k l = AreStepped (λ k q. Settles l.judging.plan.now (entry_of l.entry) l.initial.instance.partial l.initial.instance.binding k (progress_at l.initial.instance.progress k) q) l.k l.initial.instance l.instance
