use Rattle.std.proofs.Common.{rules, ◌≡◌}
use Rattle.std.specs.Prelude.{Some, slice_get}
use Rattle.crs_base.specs.Seen.{entry_of}
use Rattle.crs_model.specs.Plans.{chronicle}
use Rattle.crs_model.specs.SeenModels.{window_of}
use Rattle.crs_instance.proofs.Stretches.{window_as}
use Rattle.crs_living.proofs.Progress.{holds_one, bound_of, settled_by, same_count, unbegun}
use Rattle.crs_living.proofs.windows.settled.Goals as goal

pub returns-in_default : goal.returns-in_default
returns-in_default c = (λ entries d late few has. unbegun c.args.judging.now.plan.now c.args.k c.args.instance.now c.stretch_of.result (search rules) c.stretch_of.ensures _ d c.progress.result, same_count _ c.progress.result c.progress.ensures)

pub settle-requires-clause-bound : goal.settle-requires-clause-bound
settle-requires-clause-bound c =
    let d = c.index-as_slice-k.result in
    let is : slice_get (chronicle c.args.judging.now.plan.now).windows c.args.k ≡ Some (window_of d) = window_as c.as_slice.result.now c.args.judging.now.plan.now.chronicle.windows c.args.k d c.as_slice.ensures c.requires.window c.index-as_slice-k.is in
    bound_of c.args.judging.now.plan.now c.args.k (window_of d) is c.args.instance.now c.in-Some.stretch c.stretch_of.result c.in-Some.is c.stretch_of.ensures c.binding.result.now c.binding.ensures

pub settle-requires-clause-one : goal.settle-requires-clause-one
settle-requires-clause-one c =
    let d = c.index-as_slice-k.result in
    let is : slice_get (chronicle c.args.judging.now.plan.now).windows c.args.k ≡ Some (window_of d) = window_as c.as_slice.result.now c.args.judging.now.plan.now.chronicle.windows c.args.k d c.as_slice.ensures c.requires.window c.index-as_slice-k.is in
    holds_one c.args.judging.now.plan.now c.args.k (window_of d) is c.requires.judging.proper

pub returns : goal.returns
returns c =
    let d = c.index-as_slice-k.result in
    let is : slice_get (chronicle c.args.judging.now.plan.now).windows c.args.k ≡ Some (window_of d) = window_as c.as_slice.result.now c.args.judging.now.plan.now.chronicle.windows c.args.k d c.as_slice.ensures c.requires.window c.index-as_slice-k.is in
    settled_by c.args.judging.now.plan.now c.args.k (window_of d) is c.args.instance.now c.in-Some.stretch c.stretch_of.result c.in-Some.is c.stretch_of.ensures c.binding.result.now c.binding.ensures c.progress-2.result c.settle.result (entry_of c.args.entry.now)
    (λ settled d few late p. c.settle.ensures.progress few settled d late p) c.progress-2.ensures c.settle.ensures.more
