use Rattle.std.proofs.Common.{◌-◌, length}
use Rattle.crs_compile.proofs.lag.+slow_from.Given as goal

abbrev pub decreases-slow_from : goal.decreases-slow_from
decreases-slow_from l = length l.plans.now - l.fast
