use Rattle.std.proofs.Common.{◌≡◌, drop}
use Rattle.crs_history.specs.ListNumbers.{number_from}
use Rattle.crs_history.proofs.numbers.number_from.Given as goal

-- what is left leads from here to where all lead
abbrev pub invariant-loop-symbol : goal.invariant-loop-symbol
invariant-loop-symbol l = number_from l.steps.entries l.number (drop l.symbol-index l.symbols) ≡ number_from l.steps.entries l.from l.symbols
