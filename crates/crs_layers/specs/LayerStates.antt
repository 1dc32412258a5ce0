-- Layers, as contracts see them, and what is read of them.
use Rattle.std.specs.Prelude.{ℕ, Bool, ◌-◌, ◌^◌, ◌==◌, min, sum, List, [], ◌∷◌, map}
use Rattle.std.specs.List.{list_any}
use Rattle.crs_model.specs.declared.plan.Plans.{Plans}
use Rattle.crs_engine.specs.Engines.{EngineState, kept_of}
use Rattle.crs_layers.specs.declared.layer.Layer.{Layer}

pub record LayersState : Type 0 where
  pub plans : Plans
  pub layers : List Layer
  pub focus : Bool
  pub limit : ℕ
  pub last : ℕ
  pub ended : Bool
  pub stopped : Bool

-- of stratum 0
abbrev pub first_of : (EngineState → ℕ) → List Layer → ℕ
first_of f [] = 0
first_of f (l ∷ ls) = f l.engine

abbrev pub horizon_in : LayersState → ℕ
horizon_in x = first_of (λ e. e.horizon) x.layers

-- stratum 0 accepts the logged entries alone
abbrev pub accepted_in : LayersState → ℕ
accepted_in x = first_of (λ e. e.accepted) x.layers

-- some stratum has accepted as many entries as may be
abbrev pub is_full_in : LayersState → Bool
is_full_in x = list_any (λ l. l.engine.accepted == l.engine.limit) x.layers

-- how many partial assignments are held, or 2^64 - 1 where there are more
abbrev pub kept_in : LayersState → ℕ
kept_in x = min (sum (map (λ l. kept_of l.engine) x.layers)) (2 ^ 64 - 1)
