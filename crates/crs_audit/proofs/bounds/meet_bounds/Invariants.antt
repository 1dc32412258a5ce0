use Rattle.std.proofs.Common.{◌+◌, map, length, Some}
use Rattle.crs_base.specs.Seen.{entry_of}
use Rattle.crs_model.specs.Partial.{dates_of}
use Rattle.crs_audit.specs.Rounds.{date_in, AreNear}
use Rattle.crs_audit.proofs.MeetingBounds.{IsAfter}
use Rattle.crs_audit.proofs.bounds.meet_bounds.Given as goal

-- so many rounds were made
abbrev pub invariant-loop-round : goal.invariant-loop-round
invariant-loop-round l = record {
  after : IsAfter l.bounds (length l.entries) (dates_of (map Some (map (λ e. entry_of e.value) l.entries))) l.round (date_in l.dates.of);
  near : AreNear (l.round + 1) l.dates.of;
}
