use Rattle.std.proofs.Common.{ℕ}
use Rattle.crs_instance.specs.EntryLinks.{AreLinked}
use Rattle.crs_instance.proofs.Linked.{IsPart, ComesFrom}
use Rattle.crs_instance.proofs.links.gives.Given as goal

abbrev pub invariant-loop-here : goal.invariant-loop-here
invariant-loop-here l = (n : ℕ) → AreLinked n l.links → AreLinked n l.here × IsPart n l.here l.links × ComesFrom n l.here l.links l.arrival
