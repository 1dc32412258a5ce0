-- Several instances: their partial assignments, and of which plan they are.
use Rattle.std.specs.Prelude.{List, map}
use Rattle.std.specs.List.{AllByRecursion}
use Rattle.crs_base.specs.declared.symbols.Sym.{Sym}
use Rattle.crs_instance.specs.Instances.{InstanceState, IsOf}
use Rattle.crs_model.specs.declared.plan.Plan.{Plan}
use Rattle.crs_model.specs.Partial.{Partial}

-- the partial assignments of instances
abbrev pub parts : List InstanceState → List (Partial Sym)
parts is = map (λ i. i.partial) is

abbrev pub AllOf : Plan → List InstanceState → Type 0
AllOf plan is = AllByRecursion (IsOf plan) is
