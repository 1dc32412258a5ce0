use Rattle.std.proofs.Common.{length}
use Rattle.crs_waiting.proofs.DuePairs.{IsCollectedTo}
use Rattle.crs_waiting.proofs.dues.collect_due.Given as goal

abbrev pub invariant-loop-timed : goal.invariant-loop-timed
invariant-loop-timed l = IsCollectedTo l.h l.fn.calendar.pairs l.fn.places.items l.calendar l.places.items

abbrev pub decreases-loop-timed : goal.decreases-loop-timed
decreases-loop-timed l = length l.calendar.pairs
