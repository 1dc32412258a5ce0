use Rattle.std.proofs.Common.{◌≡◌, ◌++◌, drop}
use Rattle.crs_language_tests.proofs.compile.listed.Given as goal

abbrev pub invariant-loop-bound : goal.invariant-loop-bound
invariant-loop-bound l = l.list ++ drop l.bound-index l.bounds ≡ l.bounds
