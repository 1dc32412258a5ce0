use Rattle.std.proofs.Common.{◌≡◌, ◌<◌, ◌≤◌, ◌+◌}
use Rattle.crs_agenda.specs.Places.{lead}
use Rattle.crs_agenda.proofs.rows.bucket_of.Given as goal

abbrev pub invariant-loop-here : goal.invariant-loop-here
invariant-loop-here l = record {
  here : l.here ≡ lead l.row l.fn.base;
  there : l.there ≡ lead l.row l.fn.date;
  order : l.here ≤ l.there;
  later : 0 < l.row → l.here < l.there;
  few : l.row + l.there ≤ l.fn.date;
}

abbrev pub decreases-loop-here : goal.decreases-loop-here
decreases-loop-here l = l.there
