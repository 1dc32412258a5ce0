use Rattle.std.proofs.Common.{◌≡◌, ◌≤◌, drop, map}
use Rattle.std.specs.Prelude.{fold, min, max}
use Rattle.crs_report.proofs.figures.dates_of.Given as goal

-- those of what is left are those of all
abbrev pub invariant-loop-entry : goal.invariant-loop-entry
invariant-loop-entry l = record {
  least : fold min l.least (map (λ e. e.value.date) (drop l.entry-index l.rest)) ≡ fold min l.initial.least (map (λ e. e.value.date) l.rest);
  greatest : fold max l.greatest (map (λ e. e.value.date) (drop l.entry-index l.rest)) ≡ fold max l.initial.greatest (map (λ e. e.value.date) l.rest);
  order : l.least ≤ l.greatest;
}
