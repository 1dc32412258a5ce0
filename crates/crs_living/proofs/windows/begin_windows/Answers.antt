use Rattle.std.proofs.Common.{rules}
use Rattle.crs_living.proofs.Progress.{begun_all}
use Rattle.crs_living.proofs.windows.begin_windows.Goals as goal

pub returns : goal.returns
returns c = begun_all c.loop-k.k c.args.passing.now.judging.plan.now c.args.passing.now.history.now c.args.passing.now.since c.args.parent.now c.args.fork.now c.loop-k.fork c.loop-k.invariant (search rules)
