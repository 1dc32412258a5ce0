-- A mark goes through the strata, from the lowest on.
use Rattle.std.specs.Prelude.{◌≡◌, ◌<◌, ◌≤◌, ◌+◌, ◌-◌, ◌^◌, ℕ, suc, max, Bool, List, [], ◌∷◌, map}
use Rattle.std.specs.List.{AllByRecursion}
use Rattle.crs_base.specs.declared.symbols.Sym.{Sym}
use Rattle.crs_base.specs.Entry.{Entry}
use Rattle.crs_base.specs.Symbols.{AreDistinct}
use Rattle.crs_model.specs.declared.plan.Plan.{Plan}
use Rattle.crs_model.specs.declared.recognition.Mark.{Mark}
use Rattle.crs_model.specs.declared.recognition.Mark.TheVariants.{Clock, Finish}
use Rattle.crs_model.specs.declared.recognition.Recognition.{Recognition}
use Rattle.crs_model.specs.Hierarchy.{lag_at}
use Rattle.crs_model.specs.Plans.{IsProper, chronicle}
use Rattle.crs_model.specs.Renaming.{text_in, IsChronicleOf, IsEntryOf}
use Rattle.crs_engine.specs.Marks.{ListsAllNew}
use Rattle.crs_layers.specs.Strata.{Stratum, IsPlaced, behind, scope_in, IsMarkFrom}
use Rattle.crs_layers.specs.Runs.{some_flooded}
use Rattle.crs_layers.specs.LayerPlans.{placed_of, picked, AreLayersOf}
use Rattle.crs_layers.specs.Marks.{clock_of, horizon_for}
use Rattle.crs_layers.specs.Standing.{HasText, AreLayersAt}
use Rattle.crs_layers.specs.declared.layer.Layer.{Layer}

-- what the strata from one on stand for before a mark, with their horizons, and what they have in common
pub record Passing : Type 0 where
  pub plans : List Plan
  pub numbers : List ℕ
  pub focus : Bool
  pub limit : ℕ
  pub horizons : ℕ → ℕ
  pub last : ℕ
  pub delay : ℕ
  pub stratum : ℕ
  pub strata : List (Stratum Sym)

-- the horizon of stratum j behind the mark
abbrev pub next_horizon : Mark → Passing → ℕ → ℕ
next_horizon mark w j = max (w.horizons j) (horizon_for mark (w.delay + behind (placed_of w.plans w.numbers) j))

-- a clock is a date, and isn't before the last one
abbrev pub IsTimely : Mark → ℕ → Type 0
IsTimely (Clock t) last = (t < 2 ^ 40) × (last ≤ t)
IsTimely Finish last = Unit {0}

-- the layers stand for that, all symbols have texts, and each horizon lies at least the lag of the stratum below behind that one's
pub record AreReadyFor (texts : List (List ℕ)) (mark : Mark) (w : Passing) (ls : List Layer) : Type 0 where
  pub distinct : AreDistinct texts
  pub proper : AllByRecursion IsProper w.plans
  pub known_plans : AllByRecursion (λ p. IsChronicleOf (HasText texts) (chronicle p)) w.plans
  pub placed : AllByRecursion IsPlaced (placed_of w.plans w.numbers)
  pub behind : (i : ℕ) → w.horizons (suc i) ≤ (w.horizons i - lag_at i (map (λ c. (c.stratum, c.lag)) (placed_of w.plans w.numbers)))
  pub of : AreLayersOf w.plans w.numbers w.focus w.limit w.stratum ls
  pub at : AreLayersAt w.horizons w.last w.delay w.stratum w.strata ls
  pub known : AllByRecursion (λ s. AllByRecursion (IsEntryOf (HasText texts)) s.accepted) w.strata
  pub timely : IsTimely mark w.last

-- what is new in each stratum from j on, which stood before the mark and stands behind it as given
abbrev pub AnswerFrom : List Plan → List ℕ → Mark → (ℕ → ℕ) → (ℕ → ℕ) → ℕ → List (Stratum Sym) → List (Stratum Sym) → List (List Recognition) → Type 0
AnswerFrom plans numbers mark g h j [] news answers = answers ≡ []
AnswerFrom plans numbers mark g h j (s ∷ ss) [] answers = ⊥
AnswerFrom plans numbers mark g h j (s ∷ ss) (t ∷ ts) answers =
    (first : List Recognition) × (rest : List (List Recognition)) × (answers ≡ first ∷ rest)
    × ListsAllNew (picked j plans numbers) 0 mark (λ p. scope_in s (g j) (chronicle p)) (λ p. scope_in t (h j) (chronicle p)) first
    × AnswerFrom plans numbers mark g h (suc j) ss ts rest

-- the mark went through the strata: what they stand for then, what they were given, and what is new in each
pub record HavePassed (texts : List (List ℕ)) (mark : Mark) (w : Passing) (ls : List Layer) (answers : List (List Recognition)) (flood : Bool) : Type 0 where
  pub news : List (Stratum Sym)
  pub given : List (List (Entry Sym))
  pub is : IsMarkFrom (text_in texts) (placed_of w.plans w.numbers) w.limit w.horizons (next_horizon mark w) w.stratum [] w.strata news given
  pub of : AreLayersOf w.plans w.numbers w.focus w.limit w.stratum ls
  pub at : AreLayersAt (next_horizon mark w) (clock_of mark) w.delay w.stratum news ls
  pub known : AllByRecursion (λ s. AllByRecursion (IsEntryOf (HasText texts)) s.accepted) news
  pub answered : AnswerFrom w.plans w.numbers mark w.horizons (next_horizon mark w) w.stratum w.strata news answers
  pub flooded : flood ≡ some_flooded w.limit w.strata given
