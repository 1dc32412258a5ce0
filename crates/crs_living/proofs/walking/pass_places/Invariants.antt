use Rattle.std.proofs.Common.{drop}
use Rattle.crs_living.specs.Windows.{IsAble, IsPassed}
use Rattle.crs_living.proofs.Walked.{IsWalkedBut}
use Rattle.crs_living.proofs.walking.pass_places.Given as goal

abbrev pub invariant-loop-place : goal.invariant-loop-place
invariant-loop-place l = IsWalkedBut (IsPassed l.passing.judging.plan.now l.passing.history.now l.passing.since l.passing.judging.h) (IsAble l.passing.judging.plan.now l.passing.judging.focus l.passing.judging.h) l.places l.fn.slots (drop l.place-index l.places) l.slots
