use Rattle.std.proofs.Common.{rules, ◌≡◌, ◌<◌, subst, arith}
use Rattle.std.specs.Prelude.{ℤ, Some, slice_get}
use Rattle.std.proofs.lemmas.Int.{to_z_pos}
use mir.Syntax.{w64}
use Rattle.crs_model.specs.Plans.{chronicle}
use Rattle.crs_model.specs.SeenModels.{window_of, body_of}
use Rattle.crs_instance.proofs.Stretches.{window_as}
use Rattle.crs_watch.specs.Judged.{IsToldBy}
use Rattle.crs_living.proofs.Progress.{judged_waits, judged_by}
use Rattle.crs_living.proofs.windows.verdict.Goals as goal

pub returns-in_default : goal.returns-in_default
returns-in_default g c = judged_waits c.args.judging.now.plan.now c.args.judging.now.h (g.D.Dated.seen c.args.dated.now) c.args.k c.args.progress c.stretch_of.result c.requires.window (search rules) c.stretch_of.ensures

pub returns : goal.returns
returns g c =
    let d = c.index-as_slice-k.result in
    let is : slice_get (chronicle c.args.judging.now.plan.now).windows c.args.k ≡ Some (window_of d) = window_as c.as_slice.result.now c.args.judging.now.plan.now.chronicle.windows c.args.k d c.as_slice.ensures c.requires.window c.index-as_slice-k.is in
    let small : c.args.judging.now.h < 9223372036854775808 = let l = c.requires.judging.small in omega arith in
    judged_by c.args.judging.now.plan.now c.args.judging.now.h (g.D.Dated.seen c.args.dated.now) c.args.k (window_of d) is c.in-Some.stretch c.stretch_of.result c.in-Some.is c.stretch_of.ensures c.args.progress c.judge.result
    (subst (λ (z : ℤ). IsToldBy c.judge.result (body_of d.body) c.in-Some.stretch.to z c.args.progress.count c.args.progress.broken) (to_z_pos w64 c.args.judging.now.h small) c.judge.ensures.told)
