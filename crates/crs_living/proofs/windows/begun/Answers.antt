use Rattle.std.proofs.Common.{subst}
use Rattle.crs_instance.specs.Followed.{IsStretchAt}
use Rattle.crs_living.proofs.Progress.{unbegun}
use Rattle.crs_living.proofs.windows.begun.Goals as goal

pub returns-in-None : goal.returns-in-None
returns-in-None g c = λ entries kept few starts more has. unbegun c.args.passing.now.judging.plan.now c.args.k (g.D.Dated.seen c.args.fork.now) c.stretch_of.result c.in-None.is c.stretch_of.ensures _ c.args.passing.now.since c.progress.result

pub begun_in-requires-clause-stretch : goal.begun_in-requires-clause-stretch
begun_in-requires-clause-stretch g c = subst (IsStretchAt c.args.passing.now.judging.plan.now (g.D.Dated.seen c.args.fork.now) c.args.k) c.in-Some.is c.stretch_of.ensures
