-- Levels as a store reads them, and what an instance waits for.
use Rattle.std.specs.Prelude.{◌≡◌, ◌≢◌, ◌⊎◌, ◌<◌, ◌≤◌, ℕ, ℤ, pos, List, length, Bool, Option, Some, None}
use Rattle.crs_base.specs.declared.symbols.Sym.{Sym}
use Rattle.crs_base.specs.Words.{IsIn, Ordered}
use Rattle.crs_model.specs.declared.plan.Plan.{Plan}
use Rattle.crs_model.specs.Levels.{level_in}
use Rattle.crs_model.specs.Partial.{Partial, at, IsAwaited}
use Rattle.crs_model.specs.Plans.{chronicle}
use Rattle.crs_instance.specs.CurrentLevel.{IsCurrentLevel}
use Rattle.crs_instance.specs.Instances.{InstanceState, IsDeadline}

-- the level of each event, which is 0 without focus
abbrev pub levels_in : Plan → Bool → ℕ → ℕ
levels_in plan focus = level_in (chronicle plan).events focus

-- the last date at which each awaited event can still come; none where no event is awaited, or that date isn't finite
abbrev pub IsLastOf : Plan → Bool → InstanceState → Option ℤ → Type 0
IsLastOf plan focus i o =
    ((n : ℕ) × IsCurrentLevel (levels_in plan focus) i.partial (Some n) × IsDeadline (levels_in plan focus) n i o)
    ⊎ (IsCurrentLevel (levels_in plan focus) i.partial None × (o ≡ None))

-- t is that date
abbrev pub IsLastDate : Plan → Bool → InstanceState → ℕ → Type 0
IsLastDate plan focus i t = (n : ℕ) × IsCurrentLevel (levels_in plan focus) i.partial (Some n) × IsDeadline (levels_in plan focus) n i (Some (pos t))

-- the awaited events are of level m, which is above l
pub record IsLevelAbove (level : ℕ → ℕ) (a : Partial Sym) (l m : ℕ) : Type 0 where
  pub above : l < m
  pub current : IsCurrentLevel level a (Some m)

-- an event is awaited whose level isn't above l, or none is
abbrev pub IsNoLevelAbove : (ℕ → ℕ) → Partial Sym → ℕ → Type 0
IsNoLevelAbove level a l = ((g : ℕ) × IsAwaited level a g × (level g ≤ l)) ⊎ ((f : ℕ) → f < length a → at a f ≡ None → ⊥)

-- the events, none of which is named twice, are awaited, and all are of level l
pub record AreToDecide (level : ℕ → ℕ) (a : Partial Sym) (l : ℕ) (events : List ℕ) : Type 0 where
  pub awaited : (f : ℕ) → IsIn f events → IsAwaited level a f
  pub same : (f : ℕ) → IsIn f events → level f ≡ l
  pub apart : Ordered (λ e f. e ≢ f) events
  pub few : length events ≤ 16

-- the awaited events below n, ascending
pub record AreAwaited (level : ℕ → ℕ) (a : Partial Sym) (n : ℕ) (events : List ℕ) : Type 0 where
  pub each : (f : ℕ) → IsIn f events → IsAwaited level a f
  pub below : (f : ℕ) → IsIn f events → f < n
  pub all : (f : ℕ) → f < n → IsAwaited level a f → IsIn f events
  pub apart : Ordered (λ e f. e ≢ f) events
  pub few : length events ≤ n

-- where the ones are the awaited events, so are the others
abbrev pub KeepsAwaited : List ℕ → List ℕ → Type 0
KeepsAwaited these those = (level : ℕ → ℕ) (a : Partial Sym) (n : ℕ) → AreAwaited level a n these → AreAwaited level a n those
