use Rattle.crs_stn.proofs.Soonest.{date_windows_are_exact as exact}
use Rattle.crs_stn.proofs.laws.date_windows_are_exact.Goals as goal

pub returns : goal.returns
returns c = exact
