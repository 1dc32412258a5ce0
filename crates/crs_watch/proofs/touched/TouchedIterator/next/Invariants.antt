use Rattle.std.proofs.Common.{◌≡◌, length}
use Rattle.crs_watch.specs.Watching.{pairs_at}
use Rattle.crs_watch.proofs.touched.TouchedIterator.next.Given as goal

-- what is left of the range has the pairs that were left
abbrev pub invariant-loop-key : goal.invariant-loop-key
invariant-loop-key g l = pairs_at l.self-inside.date l.self-inside.range ≡ l.fn.self

abbrev pub decreases-loop-key : goal.decreases-loop-key
decreases-loop-key g l = length l.self-inside.range
