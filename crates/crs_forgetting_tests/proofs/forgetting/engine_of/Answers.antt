use Rattle.std.proofs.Common.{List, [], ◌∷◌, map, Global}
use Rattle.std.specs.List.{AllByRecursion}
use Rattle.std.specs.declared.rc.Rc.{Rc}
use Rattle.crs_model.specs.declared.plan.Plan.{Plan}
use Rattle.crs_model.specs.Plans.{IsProper}
use Rattle.crs_forgetting_tests.proofs.forgetting.engine_of.Goals as goal

by_value : (F : Plan → Type 0) (rs : List (Rc Plan Global)) → AllByRecursion F (map (λ r. r.value) rs) → AllByRecursion (λ r. F r.value) rs
by_value F [] h = tt
by_value F (r ∷ rs) h = (h.0, by_value F rs h.1)

pub new-requires-clause-proper : goal.new-requires-clause-proper
new-requires-clause-proper c = by_value IsProper c.in_ok-plans.plans.plans c.in_ok-plans.ensures.plans
