use Rattle.crs_compile.proofs.Slow.{in_order_of, small_all}
use Rattle.crs_compile.specs.Compiled.{plans_in, IsLagRefusal, IsModelsRefusal}
use Rattle.crs_compile.proofs.InTime.{in_time, lag_refused}
use Rattle.crs_model.specs.ShortLags.{HaveShortLags}
use Rattle.std.proofs.Common.{rules, subst}
use Rattle.crs_compile.proofs.compilation.compile.Goals as goal

pub test_lags-requires-clause-small : goal.test_lags-requires-clause-small
test_lags-requires-clause-small c = rw c.as_slice.ensures (small_all c.in_ok-plans.plans (c.in_ok-plans.ensures {u = tt}).plans)

pub test_lags-requires-clause-in_order : goal.test_lags-requires-clause-in_order
test_lags-requires-clause-in_order c = rw c.as_slice.ensures (in_order_of c.in_ok-plans.plans c.args.models.chronicles (c.in_ok-plans.ensures {u = tt}).chronicles c.requires.in_order)

pub returns-clause-in_order : goal.returns-clause-in_order
returns-clause-in_order c = in_order_of c.in_ok-plans.plans c.args.models.chronicles (c.in_ok-plans.ensures {u = tt}).chronicles c.requires.in_order

pub returns-clause-in_time : goal.returns-clause-in_time
returns-clause-in_time c =
    let made = c.in_ok-plans.ensures {u = tt} in
    in_time c.in_ok-plans.plans c.args.models.chronicles made.chronicles made.plans (subst (λ l. HaveShortLags (plans_in l)) c.as_slice.ensures (c.in_ok-test_lags.ensures {u = tt}).short)

pub returns-in_err-test_lags-clause-refused : goal.returns-in_err-test_lags-clause-refused
returns-in_err-test_lags-clause-refused c =
    let made = c.in_ok-plans.ensures {u = tt} in
    let why = c.in_err-test_lags.field-0.0 in
    let given : IsLagRefusal (plans_in c.in_ok-plans.plans) why = subst (λ l. IsLagRefusal (plans_in l) why) c.as_slice.ensures c.in_err-test_lags.ensures.refused in
    let all : IsModelsRefusal c.args.models.chronicles why = lag_refused c.in_ok-plans.plans c.args.models.chronicles made.chronicles made.plans why given in
    search (rules, all)
