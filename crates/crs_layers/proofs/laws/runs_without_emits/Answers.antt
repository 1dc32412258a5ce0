use Rattle.crs_layers.proofs.Alone.{runs_without_emits}
use Rattle.crs_layers.proofs.laws.runs_without_emits.Goals as goal

pub returns : goal.returns
returns c = runs_without_emits
