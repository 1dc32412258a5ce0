use Rattle.std.proofs.Common.{◌-◌, suc}
use Rattle.crs_engine.proofs.looked_up.add.Given as goal

abbrev pub decreases-loop-all : goal.decreases-loop-all
decreases-loop-all l = suc l.number - l.all.len
