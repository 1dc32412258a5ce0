use Rattle.std.proofs.Common.{◌≡◌, ◌≤◌, take, Some}
use Rattle.crs_history.specs.ListNumbers.{IsNumbering, Grows, count_of, step_of, number_from}
use Rattle.crs_history.specs.Told.{AreTold}
use Rattle.crs_history.proofs.numbers.add_from.Given as goal

-- the steps of the symbols so far are there
abbrev pub invariant-loop-symbol : goal.invariant-loop-symbol
invariant-loop-symbol l = record {
  numbering : IsNumbering l.steps.entries;
  grows : Grows l.initial.steps.entries l.steps.entries;
  told : AreTold (step_of l.steps.entries) l.told;
  here : l.number ≤ count_of l.steps.entries;
  led : number_from l.steps.entries l.from (take l.symbol-index l.symbols) ≡ Some l.number;
}
