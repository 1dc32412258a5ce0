use Rattle.crs_layers.proofs.Stepping.{none_is_late}
use Rattle.crs_layers.proofs.laws.no_given_entry_is_late.Goals as goal

pub returns : goal.returns
returns c = none_is_late
