use Rattle.crs_living.specs.Carried.{AreCarried}
use Rattle.crs_living.proofs.windows.carry_windows.Given as goal

abbrev pub invariant-loop-k : goal.invariant-loop-k
invariant-loop-k l = AreCarried l.passing l.parent l.fork l.k l.progress.items
