use Rattle.crs_stn.specs.Bound.{IsWithin}
use Rattle.crs_language_tests.proofs.networks.long_chain.Given as goal

abbrev pub invariant-loop-point : goal.invariant-loop-point
invariant-loop-point l = IsWithin 24 l.bounds.items
