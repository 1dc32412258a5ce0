-- Which plans a stratum's engine has.
use Rattle.std.specs.Prelude.{◌≡◌, ◌<◌, ◌≤◌, ◌^◌, ℕ, suc, ◌+◌, ◌==◌, cond, Bool, false, List, [], ◌∷◌}
use Rattle.std.specs.List.{AllByRecursion}
use Rattle.crs_base.specs.declared.symbols.Sym.{Sym}
use Rattle.crs_model.specs.declared.plan.Plan.{Plan}
use Rattle.crs_model.specs.Plans.{chronicle}
use Rattle.crs_engine.specs.Engines.{EngineState, StandsFor, plans_of}
use Rattle.crs_layers.specs.Strata.{Placed, behind}
use Rattle.crs_layers.specs.declared.layer.Layer.{Layer}

-- the chronicle of each plan with its stratum and its lag
abbrev pub placed_of : List Plan → List ℕ → List (Placed Sym)
placed_of [] ks = []
placed_of (p ∷ ps) [] = []
placed_of (p ∷ ps) (k ∷ ks) = record { chronicle = chronicle p; stratum = k; lag = p.lag } ∷ placed_of ps ks

-- the plans of stratum j, in file order
abbrev pub picked : ℕ → List Plan → List ℕ → List Plan
picked j [] ks = []
picked j (p ∷ ps) [] = []
picked j (p ∷ ps) (k ∷ ks) = cond (k == j) (p ∷ picked j ps ks) (picked j ps ks)

-- their numbers among all plans, of which the first has the number n
abbrev pub numbers_of : ℕ → ℕ → List ℕ → List ℕ
numbers_of j n [] = []
numbers_of j n (k ∷ ks) = cond (k == j) (n ∷ numbers_of j (n + 1) ks) (numbers_of j (n + 1) ks)

-- the layer is of stratum j of these plans, whose strata are given
pub record IsLayerOf (plans : List Plan) (strata : List ℕ) (focus : Bool) (limit j : ℕ) (l : Layer) : Type 0 where
  pub own_plans : plans_of l.engine.plans ≡ picked j plans strata
  pub numbers : l.numbers ≡ numbers_of j 0 strata
  pub own_behind : l.behind ≡ behind (placed_of plans strata) j
  pub near : l.behind ≤ 2 ^ 40
  pub own_focus : l.engine.focus ≡ focus
  pub own_limit : l.engine.limit ≡ limit

-- the layers are of the strata from j on, and there is one for each of these
abbrev pub AreLayersOf : List Plan → List ℕ → Bool → ℕ → ℕ → List Layer → Type 0
AreLayersOf plans strata focus limit j [] = AllByRecursion (λ k. k < j) strata
AreLayersOf plans strata focus limit j (l ∷ ls) = IsLayerOf plans strata focus limit j l × AreLayersOf plans strata focus limit (suc j) ls

-- a new engine of these plans
pub record IsStratumEngine (plans : List Plan) (focus : Bool) (limit : ℕ) (e : EngineState) : Type 0 where
  pub own_plans : plans_of e.plans ≡ plans
  pub own_focus : e.focus ≡ focus
  pub own_limit : e.limit ≡ limit
  pub last : e.last ≡ 0
  pub horizon : e.horizon ≡ 0
  pub accepted : e.accepted ≡ 0
  pub marked : e.marked ≡ 0
  pub running : e.stopped ≡ false
  pub stands : StandsFor e [] []

-- the layer of stratum j at the start
pub record IsNewLayer (plans : List Plan) (strata : List ℕ) (focus : Bool) (limit j : ℕ) (l : Layer) : Type 0 where
  pub of : IsLayerOf plans strata focus limit j l
  pub engine : IsStratumEngine (picked j plans strata) focus limit l.engine
  pub delay : l.engine.delay ≡ l.behind

abbrev pub AreNewLayers : List Plan → List ℕ → Bool → ℕ → ℕ → List Layer → Type 0
AreNewLayers plans strata focus limit j [] = Unit {0}
AreNewLayers plans strata focus limit j (l ∷ ls) = IsNewLayer plans strata focus limit j l × AreNewLayers plans strata focus limit (suc j) ls
