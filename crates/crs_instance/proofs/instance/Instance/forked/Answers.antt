use Rattle.std.proofs.Common.{◌∙◌, ap, subst}
use Rattle.std.specs.Prelude.{Option, Some}
use Rattle.crs_base.specs.Seen.{entry_of}
use Rattle.crs_instance.specs.Instances.{InstanceState, IsForked}
use Rattle.crs_instance.proofs.Forks.{made_of}
use Rattle.crs_instance.proofs.instance.Instance.forked.Goals as goal

pub returns-clause-fork : goal.returns-clause-fork
returns-clause-fork g c =
    let some : IsForked c.args.plan.now c.args.self.now c.args.event (entry_of c.args.entry.now.value) (Some c.in-Some.fork) = subst (λ (o : Option InstanceState). IsForked c.args.plan.now c.args.self.now c.args.event (entry_of c.args.entry.now.value) o) c.in-Some.is c.fork.ensures.fork in
    made_of c.args.plan.now c.args.self.now c.args.event (entry_of c.args.entry.now.value) c.in-Some.fork c.in_ok-make.field-0 c.as_slice.result.now (c.in_ok-make.ensures {u = tt}) (c.as_slice.ensures.value ∙ ap (λ (s : InstanceState). s.progress) c.self.view_is) some
