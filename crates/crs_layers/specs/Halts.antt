-- When layers refuse a call, and why.
use Rattle.std.specs.Prelude.{◌≡◌, ℕ, Bool, false, nat_lt, Option, Some, None, if◌then◌else◌}
use Rattle.crs_model.specs.declared.plan.Plans.{Plans}
use Rattle.crs_engine.specs.declared.refused.Refused.{Refused}
use Rattle.crs_engine.specs.declared.refused.Refused.TheVariants.{Stopped, Late, Full, Back}
use Rattle.crs_layers.specs.LayerStates.{LayersState, horizon_in, accepted_in, is_full_in}

-- of a date
abbrev pub test_refusal : LayersState → ℕ → Option Refused
test_refusal x date = if x.stopped then Some Stopped else (if nat_lt date (horizon_in x) then Some (Late date (horizon_in x)) else None)

-- of an entry of that date
abbrev pub accept_refusal : LayersState → ℕ → Option Refused
accept_refusal x date =
    if x.stopped then Some Stopped
    else (if nat_lt date (horizon_in x) then Some (Late date (horizon_in x)) else (if is_full_in x then Some (Full x.limit) else None))

-- of a clock
abbrev pub clock_refusal : LayersState → ℕ → Option Refused
clock_refusal x t = if x.stopped then Some Stopped else (if nat_lt t x.last then Some (Back t x.last) else None)

-- of the end
abbrev pub finish_refusal : LayersState → Option Refused
finish_refusal x = if x.stopped then Some Stopped else None

-- layers of these plans at the start
pub record AreNew (plans : Plans) (focus : Bool) (limit : ℕ) (x : LayersState) : Type 0 where
  pub same_plans : x.plans ≡ plans
  pub same_focus : x.focus ≡ focus
  pub same_limit : x.limit ≡ limit
  pub none_accepted : accepted_in x ≡ 0
  pub at_start : horizon_in x ≡ 0
  pub no_clock : x.last ≡ 0
  pub not_ended : x.ended ≡ false
  pub running : x.stopped ≡ false
