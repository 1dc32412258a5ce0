use Rattle.std.proofs.Common.{◌≡◌, List, [], ◌∷◌, Some, sym, subst, ap}
use Rattle.std.specs.Prelude.{slice_get}
use Rattle.std.specs.List.{AllByRecursion}
use Rattle.std.specs.declared.rc.Rc.{Rc}
use Rattle.std.specs.Global.{Global}
use Rattle.crs_model.specs.declared.plan.Plan.{Plan}
use Rattle.crs_model.specs.Plans.{IsProper}
use Rattle.crs_compile.specs.Compiled.{plans_in}
use Rattle.crs_language_tests.proofs.levels.the_least_level_comes_first.Goals as goal

-- what holds of each plan holds of the first
first_proper : (plans : List (Rc Plan Global)) (first : Rc Plan Global) → AllByRecursion IsProper (plans_in plans) → Some first ≡ slice_get plans 0 → IsProper first.value
first_proper [] first h e = absurd cc
first_proper (p ∷ plans) first h e = let same : p ≡ first = cc in subst IsProper (ap (λ (r : Rc Plan Global). r.value) same) h.0

pub check_levels-requires : goal.check_levels-requires
check_levels-requires g c = subst IsProper (sym c.deref.ensures) (first_proper c.in_ok-plans.plans.plans c.in-Some.plan.now c.in_ok-plans.ensures.plans c.in-Some.ensures)
