use Rattle.std.proofs.Common.{rules, refl, subst, sym}
use Rattle.std.specs.Prelude.{Some, pos}
use Rattle.crs_base.specs.Seen.{entry_of}
use Rattle.crs_stn.specs.Table.{most_of}
use Rattle.crs_instance.specs.Completing.{IsTakenBy}
use Rattle.crs_instance.specs.Forks.{with_one}
use Rattle.crs_instance.specs.Instances.{InstanceState, IsForked}
use Rattle.crs_instance.specs.Narrowed.{narrowed_windows}
use Rattle.crs_instance.proofs.Completing.{are_narrowed}
use Rattle.crs_instance.proofs.instance.Instance.fork.Goals as goal

pub returns-then-not-takes-clause-fork : goal.returns-then-not-takes-clause-fork
returns-then-not-takes-clause-fork g c = search rules

pub returns-clause-fork : goal.returns-clause-fork
returns-clause-fork g c =
    let plan = c.args.plan.now in
    let self = c.args.self.now in
    let x = entry_of c.args.entry.now.value in
    let ws = narrowed_windows plan.network.points (most_of plan.network) c.args.event (pos x.date) self.windows in
    let taken : IsTakenBy plan self c.args.event x (Some c.takes.new.binding) = search rules in
    let forked : IsForked plan self c.args.event x (Some (with_one plan self c.args.event x c.takes.new.binding)) = (taken ws (are_narrowed plan.network.points (most_of plan.network) c.args.event (pos x.date) self.windows), refl, refl) in
    subst (λ (i : InstanceState). IsForked plan self c.args.event x (Some i)) (sym c.new.ensures) forked
