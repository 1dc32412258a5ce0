use Rattle.std.proofs.Common.{◌≡◌, ◌++◌, map, take, drop}
use Rattle.crs_store.specs.Found.{numbered}
use Rattle.crs_store.proofs.found.number_all.Given as goal

abbrev pub invariant-loop-one : goal.invariant-loop-one
invariant-loop-one l = l.found ≡ map (numbered l.chronicle l.mark) (take l.one-index l.initial.found) ++ drop l.one-index l.initial.found
