use Rattle.std.proofs.Common.{◌≡◌, ◌++◌, replicate}
use Rattle.crs_report.proofs.figures.push_zeros.Given as goal

abbrev pub invariant-loop-added : goal.invariant-loop-added
invariant-loop-added l = l.figures ≡ l.fn.figures ++ replicate l._added 0
