use Rattle.std.proofs.Common.{refl, ◌≡◌, ◌<◌, subst, arith}
use Rattle.std.specs.Prelude.{ℤ, ◌≤ℤ◌, Some, slice_get}
use Rattle.std.proofs.lemmas.Int.{to_z_pos}
use mir.Syntax.{w64}
use Rattle.crs_model.specs.Plans.{chronicle}
use Rattle.crs_model.specs.SeenModels.{window_of}
use Rattle.crs_instance.proofs.Stretches.{window_as}
use Rattle.crs_living.proofs.Progress.{holds_one, bound_of, passed_by}
use Rattle.crs_living.proofs.windows.passed_in.Goals as goal

pub pass-requires-clause-bound : goal.pass-requires-clause-bound
pass-requires-clause-bound g c =
    let d = c.index-as_slice-k.result in
    let is : slice_get (chronicle c.args.passing.now.judging.plan.now).windows c.args.k ≡ Some (window_of d) = window_as c.as_slice.result.now c.args.passing.now.judging.plan.now.chronicle.windows c.args.k d c.as_slice.ensures c.requires.window c.index-as_slice-k.is in
    bound_of c.args.passing.now.judging.plan.now c.args.k (window_of d) is (g.D.Dated.seen c.args.dated.now) c.args.stretch (Some c.args.stretch) refl c.requires.stretch c.binding.result.now c.binding.ensures

pub pass-requires-clause-one : goal.pass-requires-clause-one
pass-requires-clause-one g c =
    let d = c.index-as_slice-k.result in
    let is : slice_get (chronicle c.args.passing.now.judging.plan.now).windows c.args.k ≡ Some (window_of d) = window_as c.as_slice.result.now c.args.passing.now.judging.plan.now.chronicle.windows c.args.k d c.as_slice.ensures c.requires.window c.index-as_slice-k.is in
    holds_one c.args.passing.now.judging.plan.now c.args.k (window_of d) is c.requires.passing.judging.proper

pub returns : goal.returns
returns g c =
    let d = c.index-as_slice-k.result in
    let is : slice_get (chronicle c.args.passing.now.judging.plan.now).windows c.args.k ≡ Some (window_of d) = window_as c.as_slice.result.now c.args.passing.now.judging.plan.now.chronicle.windows c.args.k d c.as_slice.ensures c.requires.window c.index-as_slice-k.is in
    let small : c.args.passing.now.judging.h < 9223372036854775808 = let l = c.requires.passing.judging.small in omega arith in
    let small_since : c.args.passing.now.since < 9223372036854775808 = let l = c.requires.passing.since in omega arith in
    passed_by c.args.passing.now.judging.plan.now c.args.k (window_of d) is (g.D.Dated.seen c.args.dated.now) c.args.stretch (Some c.args.stretch) refl c.requires.stretch c.binding.result.now c.binding.ensures c.args.progress c.pass.result c.args.passing.now.history.now c.args.passing.now.since c.args.passing.now.judging.h
    (λ settled low up kept p.
    c.pass.ensures.progress (λ l. low (subst (λ (z : ℤ). z ≤ℤ c.args.stretch.from) (to_z_pos w64 c.args.passing.now.since small_since) l)) settled c.args.passing.now.since c.args.passing.now.judging.h (to_z_pos w64 c.args.passing.now.since small_since) (to_z_pos w64 c.args.passing.now.judging.h small) up kept p) (let e = c.pass.ensures.same in omega arith)
