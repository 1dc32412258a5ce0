use Rattle.crs_log.proofs.Staying.{stays_behind}
use Rattle.crs_log.proofs.laws.recognitions_stay.Goals as goal

pub returns : goal.returns
returns c = stays_behind
