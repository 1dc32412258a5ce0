use Rattle.std.proofs.Common.{◌≡◌, ◌++◌, drop}
use Rattle.std.specs.Prelude.{flat_map}
use Rattle.crs_report.specs.Listeners.{figure_text}
use Rattle.crs_report.proofs.pages.push_figures.Given as goal

-- what is written and the figures that are left are all
abbrev pub invariant-loop-figure : goal.invariant-loop-figure
invariant-loop-figure l = l.out.items ++ flat_map figure_text (drop l.figure-index l.figures) ≡ l.fn.out.items ++ flat_map figure_text l.figures
