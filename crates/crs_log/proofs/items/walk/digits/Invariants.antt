use Rattle.std.proofs.Common.{length, ◌-◌, ◌<◌, ◌^◌}
use Rattle.crs_log.specs.Dates.{AreDigitsTo}
use Rattle.crs_log.proofs.items.walk.digits.Given as goal

abbrev pub invariant-loop-end : goal.invariant-loop-end
invariant-loop-end l = record {
  read : AreDigitsTo l.line l.date l.end;
  below : l.date < 10 ^ l.end;
}

abbrev pub decreases-loop-end : goal.decreases-loop-end
decreases-loop-end l = length l.line - l.end
