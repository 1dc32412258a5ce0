use Rattle.std.proofs.Common.{◌≡◌, ◌++◌, take, drop}
use Rattle.crs_layers.specs.Gathering.{renumbered}
use Rattle.crs_layers.proofs.gathering.renumber.Given as goal

abbrev pub invariant-loop-found : goal.invariant-loop-found
invariant-loop-found l = l.answer ≡ renumbered l.numbers (take l.found-index l.initial.answer) ++ drop l.found-index l.initial.answer
