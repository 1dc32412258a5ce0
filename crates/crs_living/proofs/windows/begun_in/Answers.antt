use Rattle.std.proofs.Common.{refl, ◌≡◌, ◌<◌, subst, arith}
use Rattle.std.specs.Prelude.{ℤ, Some, slice_get}
use Rattle.std.proofs.lemmas.Int.{to_z_pos}
use mir.Syntax.{w64}
use Rattle.crs_model.specs.Bindings.{look_of}
use Rattle.crs_model.specs.HasProgress.{IsProgress}
use Rattle.crs_model.specs.Plans.{chronicle}
use Rattle.crs_model.specs.SeenModels.{window_of, body_of}
use Rattle.crs_instance.proofs.Stretches.{window_as}
use Rattle.crs_living.proofs.Progress.{holds_one, bound_of, begins_by, keeps_by, any_window, some_of}
use Rattle.crs_living.proofs.windows.begun_in.Goals as goal

pub returns-then-is_some : goal.returns-then-is_some
returns-then-is_some g c =
    let w = any_window c.args.passing.now.judging.plan.now c.args.k c.requires.window in
    let s = some_of c.stretch_of.result c.is_some.result c.is_some.ensures c.if-is_some.true in
    keeps_by c.args.passing.now.judging.plan.now c.args.k w.0 w.1 c.args.parent.now (g.D.Dated.seen c.args.fork.now) s.0 c.stretch_of.result s.1 c.stretch_of.ensures c.progress.result c.progress.ensures c.args.passing.now.history.now c.args.passing.now.since

pub begin-requires-clause-bound : goal.begin-requires-clause-bound
begin-requires-clause-bound g c =
    let d = c.index-as_slice-k.result in
    let is : slice_get (chronicle c.args.passing.now.judging.plan.now).windows c.args.k ≡ Some (window_of d) = window_as c.as_slice.result.now c.args.passing.now.judging.plan.now.chronicle.windows c.args.k d c.as_slice.ensures c.requires.window c.index-as_slice-k.is in
    bound_of c.args.passing.now.judging.plan.now c.args.k (window_of d) is (g.D.Dated.seen c.args.fork.now) c.args.stretch (Some c.args.stretch) refl c.requires.stretch c.binding.result.now c.binding.ensures

pub begin-requires-clause-one : goal.begin-requires-clause-one
begin-requires-clause-one g c =
    let d = c.index-as_slice-k.result in
    let is : slice_get (chronicle c.args.passing.now.judging.plan.now).windows c.args.k ≡ Some (window_of d) = window_as c.as_slice.result.now c.args.passing.now.judging.plan.now.chronicle.windows c.args.k d c.as_slice.ensures c.requires.window c.index-as_slice-k.is in
    holds_one c.args.passing.now.judging.plan.now c.args.k (window_of d) is c.requires.passing.judging.proper

pub returns : goal.returns
returns g c =
    let d = c.index-as_slice-k.result in
    let is : slice_get (chronicle c.args.passing.now.judging.plan.now).windows c.args.k ≡ Some (window_of d) = window_as c.as_slice.result.now c.args.passing.now.judging.plan.now.chronicle.windows c.args.k d c.as_slice.ensures c.requires.window c.index-as_slice-k.is in
    let small : c.args.passing.now.since < 9223372036854775808 = let l = c.requires.passing.since in omega arith in
    begins_by c.args.passing.now.judging.plan.now c.args.k (window_of d) is c.args.parent.now (g.D.Dated.seen c.args.fork.now) c.args.stretch (Some c.args.stretch) refl c.requires.stretch c.binding.result.now c.binding.ensures c.begin.result c.args.passing.now.history.now c.args.passing.now.since
    (λ settled few low kept. subst (λ (z : ℤ). IsProgress settled (look_of c.binding.result.now) (body_of d.body) c.args.stretch.from c.args.stretch.to z c.begin.result.count c.begin.result.broken) (to_z_pos w64 c.args.passing.now.since small) (c.begin.ensures few low settled kept))
