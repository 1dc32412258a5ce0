use Rattle.std.proofs.Common.{subst, rules}
use Rattle.std.specs.Vec.Iter.{into_iter_items}
use Rattle.std.proofs.lemmas.Result.{err_from_is_err_and}
use Rattle.crs_compile.specs.Compiled.{plans_in}
use Rattle.crs_compile.proofs.Plans.{IsPlanned, planned_more, refused_within}
use Rattle.crs_compile.proofs.compilation.plans_of.Goals as goal

pub returns-in_err-push_plan-clause-refused : goal.returns-in_err-push_plan-clause-refused
returns-in_err-push_plan-clause-refused c =
    let p = err_from_is_err_and c.from_residual.result c.from_residual.ensures.1 in
    let left = subst (IsPlanned c.args.chronicles (plans_in c.loop-chronicle.plans)) c.in-Some.ensures.steps.0 c.loop-chronicle.invariant.2 in
    rw (p.1, p.2) (refused_within c.args.chronicles (plans_in c.loop-chronicle.plans) c.in-Some.chronicle (into_iter_items c.next.new.self) c.in_err-push_plan.field-0.0 left (c.in_err-push_plan.ensures {u = tt}).refused)

pub loop-chronicle-preserved : goal.loop-chronicle-preserved
loop-chronicle-preserved c =
    let left = subst (IsPlanned c.args.chronicles
    (plans_in c.loop-chronicle.plans)) c.in-Some.ensures.steps.0 c.loop-chronicle.invariant.2 in (
      tt,
      tt,
      planned_more c.args.chronicles (plans_in c.loop-chronicle.plans) c.in-Some.chronicle (into_iter_items c.next.new.self)
          (plans_in c.push_plan.new.plans) (c.in_ok-push_plan.ensures {u = tt}).plan left,
      search rules,
    )
