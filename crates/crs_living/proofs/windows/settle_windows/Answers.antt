use Rattle.crs_living.proofs.Progress.{still_of}
use Rattle.crs_living.proofs.windows.settle_windows.Goals as goal

pub settled-progress-requires-clause-of : goal.settled-progress-requires-clause-of
settled-progress-requires-clause-of c = still_of c.args.judging.now.plan.now c.args.instance.now c.loop-k.instance c.loop-k.invariant.same c.requires.of
