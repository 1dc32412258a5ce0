use Rattle.std.proofs.Common.{rules, refl}
use Rattle.std.specs.Prelude.{Some, pos}
use Rattle.crs_base.specs.Seen.{entry_of}
use Rattle.crs_stn.specs.Table.{most_of}
use Rattle.crs_model.specs.Partial.{put}
use Rattle.crs_instance.specs.Completing.{IsTakenBy}
use Rattle.crs_instance.specs.Instances.{InstanceState}
use Rattle.crs_instance.proofs.BindAnswers.{the_state}
use Rattle.crs_instance.specs.Narrowed.{narrowed_windows}
use Rattle.crs_instance.proofs.Completing.{are_narrowed}
use Rattle.crs_instance.proofs.instance.Instance.complete.Goals as goal

pub returns-then-not-takes-clause-completed : goal.returns-then-not-takes-clause-completed
returns-then-not-takes-clause-completed g c = search rules

pub returns-clause-completed : goal.returns-clause-completed
returns-clause-completed g c =
    let plan = c.args.plan.now in
    let self = c.args.self.now in
    let x = entry_of c.args.entry.now.value in
    let ws = narrowed_windows plan.network.points (most_of plan.network) c.args.event (pos x.date) self.windows in
    let next : InstanceState = the_state (put self.partial c.args.event x) c.takes.new.binding ws self.progress in
    let taken : IsTakenBy plan self c.args.event x (Some c.takes.new.binding) = search rules in
    (next, (taken ws (are_narrowed plan.network.points (most_of plan.network) c.args.event (pos x.date) self.windows), refl, refl), search rules, refl)
