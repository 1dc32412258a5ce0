use Rattle.crs_layers.proofs.OneRun.{runs_are_one}
use Rattle.crs_layers.proofs.laws.runs_are_one.Goals as goal

pub returns : goal.returns
returns c = runs_are_one
