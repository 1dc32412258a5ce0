use Rattle.std.proofs.Common.{drop}
use Rattle.crs_base.specs.Seen.{entry_of}
use Rattle.crs_living.specs.Windows.{IsAble, IsFollowed}
use Rattle.crs_living.proofs.Walked.{IsWalkedBut}
use Rattle.crs_living.proofs.walking.follow_places.Given as goal

abbrev pub invariant-loop-place : goal.invariant-loop-place
invariant-loop-place l = IsWalkedBut (IsFollowed l.passing.judging.plan.now l.passing.history.now (entry_of l.entry) l.passing.since) (IsAble l.passing.judging.plan.now l.passing.judging.focus l.passing.judging.h) l.places l.fn.slots (drop l.place-index l.places) l.slots
