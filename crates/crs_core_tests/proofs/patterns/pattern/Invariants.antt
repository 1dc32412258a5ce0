use Rattle.std.proofs.Common.{◌≡◌, take}
use Rattle.crs_core_tests.proofs.patterns.pattern.Given as goal

abbrev pub invariant-loop-term : goal.invariant-loop-term
invariant-loop-term l = l.list ≡ take l.term-index l.terms
