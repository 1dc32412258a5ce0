use Rattle.crs_stn.proofs.DateWindow.{joint_demand as holds}
use Rattle.crs_stn.proofs.laws.joint_demand_holds.Goals as goal

pub returns : goal.returns
returns c = holds
