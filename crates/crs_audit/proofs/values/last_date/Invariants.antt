use Rattle.std.proofs.Common.{◌≤◌, length, map}
use Rattle.crs_model.specs.SeenModels.{term_of}
use Rattle.crs_model.specs.Bindings.{look_of}
use Rattle.crs_audit.specs.Changes.{IsTurn}
use Rattle.crs_audit.proofs.Turning.{NoneFrom}
use Rattle.crs_audit.proofs.values.last_date.Given as goal

-- none from the place on is a change
abbrev pub invariant-loop-n : goal.invariant-loop-n
invariant-loop-n l = record {
  within : l.n ≤ length l.entries;
  none : NoneFrom (IsTurn (look_of l.wanted.binding.now) l.wanted.name (map term_of l.wanted.terms.now) l.accepted) l.entries l.n;
}

abbrev pub decreases-loop-n : goal.decreases-loop-n
decreases-loop-n l = l.n
