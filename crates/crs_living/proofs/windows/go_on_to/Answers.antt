use Rattle.crs_living.proofs.Progress.{passed_all}
use Rattle.crs_living.proofs.windows.go_on_to.Goals as goal

pub returns : goal.returns
returns c = passed_all c.args.passing.now.judging.plan.now c.args.passing.now.history.now c.args.passing.now.since c.args.passing.now.judging.h c.args.instance.now c.pass_windows.new.instance c.pass_windows.ensures
