use Rattle.std.proofs.Common.{◌≡◌, refl}
use Rattle.std.specs.Prelude.{Some, slice_get}
use Rattle.crs_model.specs.Plans.{chronicle}
use Rattle.crs_model.specs.SeenModels.{window_of}
use Rattle.crs_instance.proofs.Stretches.{window_as}
use Rattle.crs_living.proofs.Progress.{not_lost_safely}
use Rattle.crs_living.proofs.windows.is_lost.Goals as goal

pub returns-then-is_safe : goal.returns-then-is_safe
returns-then-is_safe g c =
    let d = c.index-as_slice-k.result in
    let is : slice_get (chronicle c.args.judging.now.plan.now).windows c.args.k ≡ Some (window_of d) = window_as c.as_slice.result.now c.args.judging.now.plan.now.chronicle.windows c.args.k d c.as_slice.ensures c.requires.window c.index-as_slice-k.is in
    (λ same. not_lost_safely c.args.judging.now.plan.now c.args.judging.now.h (g.D.Dated.seen c.args.dated.now) c.args.k (window_of d) is c.args.progress (c.is_safe.ensures c.if-is_safe.true), λ lost. refl)
