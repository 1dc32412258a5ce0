-- What is made of models, and when they are refused.
use Rattle.std.specs.Prelude.{◌≡◌, ◌⊎◌, ℕ, suc, ◌≤◌, List, [], ◌∷◌, ◌++◌, length, map, Option, Some, None, slice_get}
use Rattle.std.specs.List.{AllByRecursion}
use Rattle.std.specs.declared.rc.Rc.{Rc}
use Rattle.std.specs.Global.{Global}
use Rattle.crs_stn.specs.Bound.{IsConsistent}
use Rattle.crs_stn.specs.declared.network.StnRefused.{StnRefused}
use Rattle.crs_stn.specs.declared.network.StnRefused.TheVariants.{Inconsistent as NoDates, Memory as NoMemory}
use Rattle.crs_model.specs.declared.chronicle.Chronicle.{Chronicle}
use Rattle.crs_model.specs.declared.models.ModelRefused.{ModelRefused}
use Rattle.crs_model.specs.declared.models.ModelRefused.TheVariants.{At, Memory}
use Rattle.crs_model.specs.declared.models.ModelWord.TheVariants.{Inconsistent, Lag}
use Rattle.crs_model.specs.declared.plan.Plan.{Plan}
use Rattle.crs_model.specs.Hierarchy.{AreStrata}
use Rattle.crs_model.specs.Plans.{IsProper, chronicle}
use Rattle.crs_model.specs.SeenModels.{chronicle_of}
use Rattle.crs_model.specs.ShortLags.{AreSlow, first_lags, ClosesSlow}
use Rattle.crs_base.specs.declared.symbols.Sym.{Sym}

-- the plans themselves
abbrev pub plans_in : List (Rc Plan Global) → List Plan
plans_in plans = map (λ p. p.value) plans

-- their chronicles
abbrev pub chronicles_in : List (Rc Plan Global) → List Chronicle
chronicles_in plans = map (λ p. p.chronicle) (plans_in plans)

-- the plan of the chronicle goes last
pub record IsAdded (c : Chronicle) (old new : List Plan) : Type 0 where
  pub plan : Plan
  pub chronicle : plan.chronicle ≡ c
  pub proper : IsProper plan
  pub last : new ≡ old ++ plan ∷ []

-- the line closes the first chronicle whose bounds no whole dates meet
abbrev pub ClosesFirst : List Chronicle → ℕ → Type 0
ClosesFirst [] line = ⊥
ClosesFirst (c ∷ cs) line = ((IsConsistent c.bounds → ⊥) × (line ≡ c.line)) ⊎ (IsConsistent c.bounds × ClosesFirst cs line)

-- the line closes the first chronicle with which the lags are too long; there is none where they never are
abbrev pub IsSlowLine : List Plan → List ℕ → Option ℕ → Type 0
IsSlowLine plans strata None = (n : ℕ) → n ≤ length plans → AreSlow (first_lags n plans strata) → ⊥
IsSlowLine plans strata (Some line) =
    (n : ℕ) × (p : Plan) × (slice_get plans n ≡ Some p) × (line ≡ p.chronicle.line) × AreSlow (first_lags (suc n) plans strata)
    × ((k : ℕ) → k ≤ n → AreSlow (first_lags k plans strata) → ⊥)

-- the lags are too long; want of memory has no cause
abbrev pub IsLagRefusal : List Plan → ModelRefused → Type 0
IsLagRefusal plans (At line word) = (word ≡ Lag) × ((strata : List ℕ) × AreStrata (map chronicle plans) strata × IsSlowLine plans strata (Some line))
IsLagRefusal plans Memory = Unit {0}

-- some chronicle's bounds can't be met; want of memory has no cause
abbrev pub IsRefusal : List Chronicle → ModelRefused → Type 0
IsRefusal cs (At line word) = (word ≡ Inconsistent) × ClosesFirst cs line
IsRefusal cs Memory = Unit {0}

-- some chronicle's bounds can't be met, or all can and the lags are too long; want of memory has no cause
abbrev pub IsModelsRefusal : List Chronicle → ModelRefused → Type 0
IsModelsRefusal cs (At line word) =
    ((word ≡ Inconsistent) × ClosesFirst cs line) ⊎ ((word ≡ Lag) × AllByRecursion (λ c. IsConsistent c.bounds) cs × ClosesSlow Sym (map chronicle_of cs) line)
IsModelsRefusal cs Memory = Unit {0}

-- what the network's refusal means for the chronicle that is closed at the line
abbrev pub refusal_of : ℕ → StnRefused → ModelRefused
refusal_of line (NoDates cycle) = At line Inconsistent
refusal_of line NoMemory = Memory
