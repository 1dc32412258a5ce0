-- What layers stand for: the state of a run over strata.
use Rattle.std.specs.Prelude.{◌≡◌, ◌<◌, ◌≤◌, ◌+◌, ◌^◌, ℕ, suc, true, false, None, List, [], ◌∷◌, length, map}
use Rattle.std.specs.List.{AllByRecursion}
use Rattle.crs_base.specs.declared.symbols.Sym.{Sym}
use Rattle.crs_base.specs.Entry.{Entry}
use Rattle.crs_base.specs.Symbols.{AreDistinct}
use Rattle.crs_base.specs.Words.{IsIn}
use Rattle.crs_model.specs.declared.plan.Plan.{Plan}
use Rattle.crs_model.specs.Hierarchy.{AreStrata}
use Rattle.crs_model.specs.Order.{in_key_order, dated_before}
use Rattle.crs_model.specs.Plans.{IsProper, chronicle}
use Rattle.crs_model.specs.Renaming.{text_in, renamed_chronicle, renamed_entry, IsChronicleOf, IsEntryOf}
use Rattle.crs_engine.specs.Engines.{StandsFor, plans_of, since}
use Rattle.crs_layers.specs.Strata.{Placed, Stratum, IsSoundAt, behind, horizon_behind}
use Rattle.crs_layers.specs.Runs.{Setting, State, at_start, horizon_of}
use Rattle.crs_layers.specs.declared.layer.Layer.{Layer}
use Rattle.crs_layers.specs.LayerPlans.{placed_of, AreLayersOf}
use Rattle.crs_layers.specs.LayerStates.{LayersState}

-- The layer's engine stands, at the horizon h, for what its stratum accepted. It has the clock, and the delay and as many ticks more as its horizon lies behind.
pub record IsLayerAt (h last delay : ℕ) (s : Stratum Sym) (l : Layer) : Type 0 where
  pub running : l.engine.stopped ≡ false
  pub horizon : l.engine.horizon ≡ h
  pub clock : l.engine.last ≡ last
  pub delayed : l.engine.delay ≡ delay + l.behind
  pub sound : IsSoundAt h s
  pub dated : AllByRecursion (λ x. x.date < 2 ^ 40) s.accepted
  pub few : l.engine.accepted ≤ l.engine.limit
  pub count : l.engine.accepted ≡ length s.accepted
  pub marked : l.engine.marked ≡ s.marked
  pub stands : StandsFor l.engine (dated_before h s.accepted) (in_key_order (since h s.accepted))

-- so each stratum from j on, with its horizon
abbrev pub AreLayersAt : (ℕ → ℕ) → ℕ → ℕ → ℕ → List (Stratum Sym) → List Layer → Type 0
AreLayersAt h last delay j [] [] = Unit {0}
AreLayersAt h last delay j [] (l ∷ ls) = ⊥
AreLayersAt h last delay j (s ∷ ss) [] = ⊥
AreLayersAt h last delay j (s ∷ ss) (l ∷ ls) = IsLayerAt (h j) last delay s l × AreLayersAt h last delay (suc j) ss ls

-- the symbol is the number of one of the texts
abbrev pub HasText : List (List ℕ) → Sym → Type 0
HasText texts s = s.0 < length texts

-- the same with the texts of symbols in place of their numbers
abbrev pub placed_in : List (List ℕ) → Placed Sym → Placed (List ℕ)
placed_in texts p = record { chronicle = renamed_chronicle (text_in texts) p.chronicle; stratum = p.stratum; lag = p.lag }

abbrev pub stratum_in : List (List ℕ) → Stratum Sym → Stratum (List ℕ)
stratum_in texts s = record { accepted = map (renamed_entry (text_in texts)) s.accepted; marked = s.marked }

-- the run is of the chronicles of these plans, whose strata are given, and knows all their symbols
pub record IsRunOf (plans : List Plan) (numbers : List ℕ) (texts : List (List ℕ)) (c : Setting) : Type 0 where
  pub strata : AreStrata (map chronicle plans) numbers
  pub placed : c.placed ≡ map (placed_in texts) (placed_of plans numbers)
  pub known : AllByRecursion (λ p. IsChronicleOf (HasText texts) (chronicle p)) plans

-- Layers stand for a state of a run. Each stratum's layer stands for what the stratum accepted, with numbers in place of the run's known texts.
pub record StandFor (c : Setting) (s : State) (x : LayersState) : Type 0 where
  pub numbers : List ℕ
  pub run : IsRunOf (plans_of x.plans) numbers s.log.texts c
  pub of : AreLayersOf (plans_of x.plans) numbers x.focus x.limit 0 x.layers
  pub limit : x.limit ≡ c.log.entries
  pub last : s.log.last ≡ x.last
  pub ended : s.log.ended ≡ x.ended
  pub strata : List (Stratum Sym)
  pub known : AllByRecursion (λ t. AllByRecursion (IsEntryOf (HasText s.log.texts)) t.accepted) strata
  pub seen : map (stratum_in s.log.texts) strata ≡ s.strata
  pub at : AreLayersAt (horizon_of c s.log) s.log.last s.log.delay 0 strata x.layers
  pub running : x.stopped ≡ false

-- new layers stand for the start of each run of the chronicles of their plans
abbrev pub StandAtStart : LayersState → Type 0
StandAtStart x =
    (c : Setting) (texts : List (List ℕ)) (numbers : List ℕ) → IsRunOf (plans_of x.plans) numbers texts c → x.limit ≡ c.log.entries
    → StandFor c (at_start c texts) x

-- they stand for some strata, of whose entries P holds, at horizons that lie behind that of stratum 0 as the lags of their plans have it
pub record AreStanding (P : Entry Sym → Type 0) (x : LayersState) : Type 0 where
  pub numbers : List ℕ
  pub of : AreLayersOf (plans_of x.plans) numbers x.focus x.limit 0 x.layers
  pub horizon : ℕ
  pub delay : ℕ
  pub strata : List (Stratum Sym)
  pub at : AreLayersAt (λ j. horizon_behind x.ended horizon (behind (placed_of (plans_of x.plans) numbers) j)) x.last delay 0 strata x.layers
  pub each : AllByRecursion (λ s. AllByRecursion P s.accepted) strata
  pub within : horizon ≤ 2 ^ 42
  pub closed : x.ended ≡ true → (horizon ≡ 2 ^ 42) × (x.last ≡ 2 ^ 42)

-- each symbol of the plans, and of what the strata accepted, is the number of one of the texts, of which no two are equal
pub record KnowSymbols (texts : List (List ℕ)) (x : LayersState) : Type 0 where
  pub distinct : AreDistinct texts
  pub plans : AllByRecursion (λ p. IsChronicleOf (HasText texts) (chronicle p)) (plans_of x.plans)
  pub entries : x.stopped ≡ false → AreStanding (IsEntryOf (HasText texts)) x

-- What holds of all layers. Each lag is finite. While they run they stand for some strata.
pub record AreLayers (x : LayersState) : Type 0 where
  pub some : 0 < length x.layers
  pub near : AllByRecursion (λ l. l.behind ≤ 2 ^ 40) x.layers
  pub proper : AllByRecursion IsProper (plans_of x.plans)
  pub lags : IsIn None (map (λ p. p.lag) (plans_of x.plans)) → ⊥
  pub standing : x.stopped ≡ false → AreStanding (λ e. Unit {0}) x
