use Rattle.std.proofs.Common.{refl, ◌≡◌, subst}
use Rattle.std.specs.Prelude.{Some, slice_get}
use Rattle.crs_model.specs.Plans.{chronicle}
use Rattle.crs_model.specs.SeenModels.{window_of}
use Rattle.crs_instance.specs.Followed.{IsStretchAt}
use Rattle.crs_instance.proofs.Stretches.{window_as}
use Rattle.crs_living.proofs.Progress.{passed_dateless, same_count, unbegun}
use Rattle.crs_living.proofs.windows.passed.Goals as goal

pub returns-then-not-hangs_on_dates : goal.returns-then-not-hangs_on_dates
returns-then-not-hangs_on_dates g c =
    let d = c.index-as_slice-k.result in
    let is : slice_get (chronicle c.args.passing.now.judging.plan.now).windows c.args.k ≡ Some (window_of d) = window_as c.as_slice.result.now c.args.passing.now.judging.plan.now.chronicle.windows c.args.k d c.as_slice.ensures c.requires.window c.index-as_slice-k.is in
    passed_dateless c.args.passing.now.judging.plan.now c.args.k (window_of d) is (c.hangs_on_dates.ensures c.if-not-hangs_on_dates.true) (g.D.Dated.seen c.args.dated.now) c.args.progress c.args.passing.now.history.now c.args.passing.now.since c.args.passing.now.judging.h

pub returns-in-None : goal.returns-in-None
returns-in-None g c = (λ entries up kept low has. unbegun c.args.passing.now.judging.plan.now c.args.k (g.D.Dated.seen c.args.dated.now) c.stretch_of.result c.in-None.is c.stretch_of.ensures _ c.args.passing.now.judging.h c.args.progress, same_count c.args.progress c.args.progress refl)

pub passed_in-requires-clause-stretch : goal.passed_in-requires-clause-stretch
passed_in-requires-clause-stretch g c = subst (IsStretchAt c.args.passing.now.judging.plan.now (g.D.Dated.seen c.args.dated.now) c.args.k) c.in-Some.is c.stretch_of.ensures
