-- What a call says of a date.
use Rattle.std.proofs.Common.{◌≡◌, ℕ, Bool, true, false, refl}
use Rattle.std.proofs.Common.{Ok, Err}
use Rattle.std.specs.Prelude.{Some, None, if◌then◌else◌}
use Rattle.crs_engine.specs.EngineRefusals.{answer_by}
use Rattle.crs_engine.specs.declared.refused.Refused.TheVariants.{Stopped, Late}

-- what the layers say of a date
pub late_by : (stopped early : Bool) (date h d horizon : ℕ)
    → Err (Late date horizon) ≡ answer_by (if stopped then Some Stopped else (if early then Some (Late d h) else None))
    → (early ≡ true) × (date ≡ d) × (horizon ≡ h)
late_by true early date h d horizon e = absurd cc
late_by false true date h d horizon e = (refl, cc, cc)
late_by false false date h d horizon e = absurd cc

pub fine_by : (stopped early : Bool) (h d : ℕ)
    → Ok tt ≡ answer_by (if stopped then Some Stopped else (if early then Some (Late d h) else None)) → early ≡ false
fine_by true early h d e = absurd cc
fine_by false true h d e = absurd cc
fine_by false false h d e = refl
