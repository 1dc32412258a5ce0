use Rattle.std.proofs.Common.{subst, refl}
use Rattle.crs_model.specs.Hierarchy.{AreStrata}
use Rattle.crs_compile.specs.Compiled.{IsSlowLine, plans_in}
use Rattle.crs_compile.proofs.Slow.{chronicles_same, strata_long}
use Rattle.crs_compile.proofs.lag.test_lags.Goals as goal

pub slow_line-requires-clause-each : goal.slow_line-requires-clause-each
slow_line-requires-clause-each c = rw c.as_slice.ensures.value (strata_long c.args.plans.now c.in_ok-strata.strata.items (c.in_ok-strata.ensures {u = tt}).strata)

pub returns-in-Some-clause-refused : goal.returns-in-Some-clause-refused
returns-in-Some-clause-refused c = (
  refl,
  (
    c.as_slice.result.now,
    rw c.as_slice.ensures.value (subst (λ cs. AreStrata cs c.in_ok-strata.strata.items) (chronicles_same c.args.plans.now) (c.in_ok-strata.ensures {u = tt}).strata),
    subst (IsSlowLine (plans_in c.args.plans.now) c.as_slice.result.now) c.in-Some.is c.slow_line.ensures,
  ),
)

pub returns-clause-short : goal.returns-clause-short
returns-clause-short c = (
  c.as_slice.result.now,
  rw c.as_slice.ensures.value (subst (λ cs. AreStrata cs c.in_ok-strata.strata.items) (chronicles_same c.args.plans.now) (c.in_ok-strata.ensures {u = tt}).strata),
  subst (IsSlowLine (plans_in c.args.plans.now) c.as_slice.result.now) c.in-None.is c.slow_line.ensures,
)
