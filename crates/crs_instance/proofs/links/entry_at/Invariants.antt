use Rattle.std.proofs.Common.{◌≡◌, ℕ}
use Rattle.crs_model.specs.Partial.{at}
use Rattle.crs_instance.specs.EntryLinks.{partial_of, AreLinked, AreEarly}
use Rattle.crs_instance.proofs.links.entry_at.Given as goal

abbrev pub invariant-loop-here : goal.invariant-loop-here
invariant-loop-here l = record {
  same : (n : ℕ) → AreLinked n l.links → AreLinked n l.here × (at (partial_of n l.here) l.event ≡ at (partial_of n l.links) l.event);
  early : AreEarly l.links → AreEarly l.here;
}
