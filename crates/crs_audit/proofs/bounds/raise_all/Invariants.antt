use Rattle.std.proofs.Common.{◌+◌, take}
use Rattle.crs_audit.specs.Rounds.{date_in, AreNear}
use Rattle.crs_audit.proofs.Raising.{IsSoFar}
use Rattle.crs_audit.proofs.bounds.raise_all.Given as goal

-- what the bounds so far did
abbrev pub invariant-loop-bound : goal.invariant-loop-bound
invariant-loop-bound l = record {
  so_far : IsSoFar l.bounds (take l.bound-index l.bounds) l.events (date_in l.before.of) (date_in l.dates.of) l.all;
  near : AreNear (l.round + 2) l.dates.of;
}
