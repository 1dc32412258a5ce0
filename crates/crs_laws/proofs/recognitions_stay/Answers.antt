use Rattle.crs_laws.proofs.Staying.{recognitions_stay}
use Rattle.crs_laws.proofs.recognitions_stay.Goals as goal

pub returns : goal.returns
returns c = recognitions_stay
