use Rattle.std.proofs.Common.{map}
use Rattle.crs_model.specs.Plans.{chronicle}
use Rattle.crs_model.proofs.Heights.{AreSoFar}
use Rattle.crs_model.proofs.strata.strata_of.Given as goal

-- those so far have their strata
abbrev pub invariant-loop-plan : goal.invariant-loop-plan
invariant-loop-plan l = AreSoFar (map (λ r. chronicle r.value) l.plans) l.strata.items l.plan-index
