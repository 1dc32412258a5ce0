use Rattle.std.proofs.Common.{Option, IfSome, subst}
use Rattle.crs_instance.specs.Instances.{InstanceState, IsOf}
use Rattle.crs_living.proofs.Progress.{still_of}
use Rattle.crs_living.proofs.slots.pass_slot.Goals as goal

pub is_able-requires-clause-of : goal.is_able-requires-clause-of
is_able-requires-clause-of c = still_of c.args.passing.now.judging.plan.now c.in-Some.instance c.go_on_to.new.instance c.go_on_to.ensures.same (subst (λ (t : Option InstanceState). IfSome t (IsOf c.args.passing.now.judging.plan.now)) c.in-Some.is c.requires.of)
