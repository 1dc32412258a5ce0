-- What comes of the instances that are held.
use Rattle.std.specs.Prelude.{◌≡◌, ◌≤◌, ◌≤ℤ◌, pos, ℕ, List, [], ◌∷◌, ◌++◌, Some, Bool}
use Rattle.std.specs.List.{AllByRecursion}
use Rattle.crs_base.specs.declared.symbols.Sym.{Sym}
use Rattle.crs_base.specs.Words.{IsIn, Ordered}
use Rattle.crs_base.specs.Entry.{Entry}
use Rattle.crs_model.specs.declared.plan.Plan.{Plan}
use Rattle.crs_model.specs.Partial.{Partial, at}
use Rattle.crs_model.specs.Images.{IsImage}
use Rattle.crs_model.specs.Scans.{GoesOnByLevel}
use Rattle.crs_model.specs.Steps.{GoesOn}
use Rattle.crs_history.specs.Histories.{HistoryState}
use Rattle.crs_instance.specs.Instances.{InstanceState}
use Rattle.crs_living.specs.Ahead.{MayGo}
use Rattle.crs_store.specs.Joins.{IsPartOf}
use Rattle.crs_focus.specs.PlanLevels.{levels_in}
use Rattle.crs_living.specs.Parts.{parts}
use Rattle.crs_living.specs.Windows.{IsRead, IsOver, IsOpenAt, IsOpenBut}

-- no event has x
abbrev pub IsFree : Entry Sym → Partial Sym → Type 0
IsFree x a = (e : ℕ) → at a e ≡ Some x → ⊥

-- no instance gives x, and no two are the same
abbrev pub IsReady : Entry Sym → List (Partial Sym) → Type 0
IsReady x held = AllByRecursion (IsFree x) held × Ordered (λ a b. a ≡ b → ⊥) held

-- what comes of the instances where x is settled after what was settled, but for what is left out, and all is judged at a date
abbrev pub TakesIn : Plan → Bool → (Partial Sym → Type 0) → HistoryState → Entry Sym → ℕ → ℕ → List InstanceState → List InstanceState → Type 0
TakesIn plan focus Out history x until since held new =
    (settled : List (Entry Sym)) → since ≤ x.date → x.date ≤ until → IsRead plan history (settled ++ x ∷ []) since → history.floor ≤ℤ pos since
    → AllByRecursion (IsOver plan focus settled settled since) held → IsReady x (parts held)
    → IsImage (GoesOnByLevel (levels_in plan focus) (IsOpenBut plan focus Out (settled ++ x ∷ []) (settled ++ x ∷ []) until) x) (parts held) (parts new)
    × AllByRecursion (IsOver plan focus (settled ++ x ∷ []) (settled ++ x ∷ []) until) new

-- the same, but that some may be left out
abbrev pub TakesInSome : Plan → Bool → (Partial Sym → Type 0) → HistoryState → Entry Sym → ℕ → ℕ → List (Entry Sym) → ℕ → List InstanceState → List InstanceState → Type 0
TakesInSome plan focus Out history x until since ahead beyond held new =
    (made : List InstanceState) × TakesIn plan focus Out history x until since held made × IsPartOf (MayGo plan focus ahead beyond) made new

-- what comes of the instances of a prompt chronicle where x comes to the pool, and all stays judged at a date
abbrev pub TakesPrompt : Plan → Bool → HistoryState → Entry Sym → ℕ → List InstanceState → List InstanceState → Type 0
TakesPrompt plan focus history x g held new =
    (pool entries : List (Entry Sym)) → g ≤ x.date → IsRead plan history entries g → ((e : Entry Sym) → IsIn e entries → IsIn e pool)
    → AllByRecursion (IsOver plan focus pool entries g) held → IsReady x (parts held)
    → IsImage (GoesOnByLevel (levels_in plan focus) (IsOpenAt plan focus (pool ++ x ∷ []) entries g) x) (parts held) (parts new)
    × AllByRecursion (IsOver plan focus (pool ++ x ∷ []) entries g) new

-- the same, but that some may be left out
abbrev pub TakesPromptSome : Plan → Bool → HistoryState → Entry Sym → ℕ → List (Entry Sym) → ℕ → List InstanceState → List InstanceState → Type 0
TakesPromptSome plan focus history x g ahead beyond held new =
    (made : List InstanceState) × TakesPrompt plan focus history x g held made × IsPartOf (MayGo plan focus ahead beyond) made new

-- what stays of the instances where x is settled, which is of the pool, and all is judged at its date
abbrev pub SettlesIn : Plan → Bool → HistoryState → Entry Sym → ℕ → List InstanceState → List InstanceState → Type 0
SettlesIn plan focus history x since held new =
    (pool settled : List (Entry Sym)) → since ≤ x.date → IsRead plan history (settled ++ x ∷ []) since → history.floor ≤ℤ pos since
    → AllByRecursion (IsOver plan focus pool settled since) held → Ordered (λ a b. a ≡ b → ⊥) (parts held)
    → IsImage (GoesOn (IsOpenAt plan focus pool (settled ++ x ∷ []) x.date)) (parts held) (parts new)
    × AllByRecursion (IsOver plan focus pool (settled ++ x ∷ []) x.date) new
