-- When lags are too long.
use Rattle.std.specs.Prelude.{◌≡◌, ◌⊎◌, ◌<◌, ◌≤◌, ◌+◌, ℕ, suc, ℤ, List, length, map, take, zip, Option, Some, None, slice_get}
use Rattle.std.specs.List.{AllZip}
use Rattle.crs_base.specs.Words.{IsIn}
use Rattle.crs_stn.specs.Network.{IsMinimal}
use Rattle.crs_model.specs.declared.limits.TheConstants.{TICK_LIMIT}
use Rattle.crs_model.specs.declared.plan.Plan.{Plan}
use Rattle.crs_model.specs.Models.{Chronicle}
use Rattle.crs_model.specs.Hierarchy.{IsGreatest, AreStrata, IsLagOf, lag_below}
use Rattle.crs_model.specs.Plans.{chronicle}

-- Lags, each with its chronicle's stratum, are too long: one is infinite, or they sum up to more than the limit of ticks over the strata up to the highest.
abbrev pub AreSlow : List (ℕ × Option ℤ) → Type 0
AreSlow cs = IsIn None (map (λ c. c.1) cs) ⊎ ((top : ℕ) × IsGreatest (λ k. (k ≡ 0) ⊎ IsIn k (map (λ c. c.0) cs)) top × (TICK_LIMIT < lag_below cs (suc top)))

-- the lag of each chronicle, by its least bounds
abbrev pub AreLags : {S : Type 0} → List (Chronicle S) → List (Option ℤ) → Type 0
AreLags cs lags = AllZip (λ c lag. (most : ℕ → ℕ → Option ℤ) × IsMinimal c.bounds (length c.events + length c.free) most × IsLagOf c most lag) cs lags

-- with none of the chronicles the lags are too long
pub record AreInTime (S : Type 0) (cs : List (Chronicle S)) : Type 0 where
  pub strata : List ℕ
  pub lags : List (Option ℤ)
  pub are_strata : AreStrata cs strata
  pub are_lags : AreLags cs lags
  pub fast : (n : ℕ) → n ≤ length cs → AreSlow (zip (take n strata) (take n lags)) → ⊥

-- the line closes the first chronicle with which the lags are too long
pub record ClosesSlow (S : Type 0) (cs : List (Chronicle S)) (line : ℕ) : Type 0 where
  pub strata : List ℕ
  pub lags : List (Option ℤ)
  pub are_strata : AreStrata cs strata
  pub are_lags : AreLags cs lags
  pub place : ℕ
  pub closed : Chronicle S
  pub there : slice_get cs place ≡ Some closed
  pub line_is : line ≡ closed.line
  pub slow : AreSlow (zip (take (suc place) strata) (take (suc place) lags))
  pub fast : (n : ℕ) → n ≤ place → AreSlow (zip (take n strata) (take n lags)) → ⊥

-- the strata and the lags of the first n plans
abbrev pub first_lags : ℕ → List Plan → List ℕ → List (ℕ × Option ℤ)
first_lags n plans strata = zip (take n strata) (map (λ p. p.lag) (take n plans))

-- with none of the plans the lags are too long
abbrev pub HaveShortLags : List Plan → Type 0
HaveShortLags plans = (strata : List ℕ) × AreStrata (map chronicle plans) strata × ((n : ℕ) → n ≤ length plans → AreSlow (first_lags n plans strata) → ⊥)
