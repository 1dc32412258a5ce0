use Rattle.std.proofs.Common.{List, ℕ}
use Rattle.crs_base.specs.Recent.{AreTold}
use Rattle.crs_base.proofs.recent.Recent.wider.Given as goal

-- what the places of the narrow table tell, those of the wider one tell so far
abbrev pub invariant-loop-pair : goal.invariant-loop-pair
invariant-loop-pair l = (texts : List (List ℕ)) → AreTold texts l.self → AreTold texts l.wider
