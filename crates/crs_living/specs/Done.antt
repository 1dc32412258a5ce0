-- When an instance is done.
use Rattle.std.specs.Prelude.{◌≡◌, ℕ, length, Bool, is_some, true}
use Rattle.std.specs.List.{list_all}
use Rattle.crs_base.specs.declared.symbols.Sym.{Sym}
use Rattle.crs_instance.specs.Instances.{InstanceState}
use Rattle.crs_living.specs.JudgedWindows.{IsMetTo}
use Rattle.crs_model.specs.declared.plan.Plan.{Plan}
use Rattle.crs_model.specs.Partial.{Partial}

abbrev pub is_whole : Partial Sym → Bool
is_whole a = list_all (λ o. is_some o) a

-- each event is bound, and each window met at h as its progress tells
abbrev pub IsDone : Plan → ℕ → InstanceState → Type 0
IsDone plan h i = (is_whole i.partial ≡ true) × IsMetTo plan h i (length plan.chronicle.windows)
