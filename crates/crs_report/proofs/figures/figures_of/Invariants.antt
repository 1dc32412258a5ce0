use Rattle.std.proofs.Common.{◌≡◌, ◌++◌, drop}
use Rattle.crs_report.proofs.figures.figures_of.Given as goal

-- the list and what is left are all
abbrev pub invariant-loop-figure : goal.invariant-loop-figure
invariant-loop-figure l = l.list ++ drop l.figure-index l.figures ≡ l.figures
