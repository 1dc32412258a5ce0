use Rattle.crs_layers.proofs.StayingOn.{what_is_read_stays}
use Rattle.crs_layers.proofs.laws.what_is_read_stays.Goals as goal

pub returns : goal.returns
returns c = what_is_read_stays
