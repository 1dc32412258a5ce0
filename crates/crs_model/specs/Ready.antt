-- Windows that can be followed: a `hold` names one attribute and one value.
use Rattle.std.specs.Prelude.{◌≤◌, length}
use Rattle.std.specs.List.{AllByRecursion}
use Rattle.crs_model.specs.declared.limits.TheConstants.{ARITY_LIMIT}
use Rattle.crs_model.specs.Models.{Body, NoEvent, Occurs, Hold}
use Rattle.crs_model.specs.ProperModels.{IsDefinite}

-- a `hold` has few enough arguments, and no `*`
abbrev pub HoldsOne : {S : Type 0} → Body S → Type 0
HoldsOne (NoEvent p) = Unit {0}
HoldsOne (Occurs least most p) = Unit {0}
HoldsOne (Hold name terms value) = AllByRecursion IsDefinite terms × IsDefinite value × (length terms ≤ ARITY_LIMIT)
