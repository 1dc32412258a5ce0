use Rattle.std.proofs.Common.{◌≡◌, filter, length}
use Rattle.crs_history.specs.Looking.{is_named}
use Rattle.crs_history.proofs.range.RangeIterator.next.Given as goal

-- those of the name that are left are those that were there
abbrev pub invariant-loop-entry : goal.invariant-loop-entry
invariant-loop-entry l = filter (is_named l.self-inside.name) l.self-inside.found ≡ l.fn.self

abbrev pub decreases-loop-entry : goal.decreases-loop-entry
decreases-loop-entry l = length l.self-inside.found
