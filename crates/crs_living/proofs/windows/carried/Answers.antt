use Rattle.std.proofs.Common.{rules, refl, subst, ◌≡◌}
use Rattle.std.specs.Prelude.{Some, slice_get}
use Rattle.crs_model.specs.Plans.{chronicle}
use Rattle.crs_model.specs.SeenModels.{window_of}
use Rattle.crs_instance.specs.Followed.{IsStretchAt}
use Rattle.crs_instance.proofs.Stretches.{window_as}
use Rattle.crs_living.proofs.Progress.{passed_dateless, same_count, unbegun}
use Rattle.crs_living.proofs.windows.carried.Goals as goal

pub returns-in_default : goal.returns-in_default
returns-in_default g c =
    let plan = c.args.passing.now.judging.plan.now in
    let fork = g.D.Dated.seen c.args.fork.now in
    let q = c.progress.result in (
      q,
      λ entries kept few starts more has. unbegun plan c.args.k fork c.stretch_of.result (search rules) c.stretch_of.ensures _ c.args.passing.now.since q,
      (λ entries up kept low has. unbegun plan c.args.k fork c.stretch_of.result (search rules) c.stretch_of.ensures _ c.args.passing.now.judging.h q, same_count q q refl),
    )

pub begun_in-progress-requires-clause-stretch : goal.begun_in-progress-requires-clause-stretch
begun_in-progress-requires-clause-stretch g c = subst (IsStretchAt c.args.passing.now.judging.plan.now (g.D.Dated.seen c.args.fork.now) c.args.k) c.in-Some.is c.stretch_of.ensures

pub passed_in-requires-clause-stretch : goal.passed_in-requires-clause-stretch
passed_in-requires-clause-stretch g c = subst (IsStretchAt c.args.passing.now.judging.plan.now (g.D.Dated.seen c.args.fork.now) c.args.k) c.in-Some.is c.stretch_of.ensures

pub returns-then-hangs_on_dates : goal.returns-then-hangs_on_dates
returns-then-hangs_on_dates g c = (c.begun_in-progress.result, c.begun_in-progress.ensures, c.passed_in.ensures)

pub returns-else-hangs_on_dates : goal.returns-else-hangs_on_dates
returns-else-hangs_on_dates g c =
    let plan = c.args.passing.now.judging.plan.now in
    let d = c.index-as_slice-k.result in
    let is : slice_get (chronicle plan).windows c.args.k ≡ Some (window_of d) = window_as c.as_slice.result.now plan.chronicle.windows c.args.k d c.as_slice.ensures c.requires.window c.index-as_slice-k.is in
    let q = c.begun_in-progress.result in
    (q, c.begun_in-progress.ensures, passed_dateless plan c.args.k (window_of d) is (c.hangs_on_dates.ensures c.if-hangs_on_dates.false) (g.D.Dated.seen c.args.fork.now) q c.args.passing.now.history.now c.args.passing.now.since c.args.passing.now.judging.h)
