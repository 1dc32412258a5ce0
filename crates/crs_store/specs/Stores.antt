-- Stores, and what they stand for.
use Rattle.std.specs.Prelude.{◌≡◌, ◌≤◌, ◌<◌, ◌^◌, ℕ, List, [], ◌∷◌, ◌++◌, length, Bool, true, false}
use Rattle.std.specs.List.{AllByRecursion}
use Rattle.crs_base.specs.declared.symbols.Sym.{Sym}
use Rattle.crs_base.specs.Entry.{Entry}
use Rattle.crs_base.specs.Words.{IsIn}
use Rattle.crs_model.specs.declared.plan.Plan.{Plan}
use Rattle.crs_model.specs.Plans.{chronicle, IsProper}
use Rattle.crs_model.specs.Steps.{IsFresh}
use Rattle.crs_model.specs.Open.{AllWanted, StandsFor}
use Rattle.crs_history.specs.Histories.{HistoryState, IsFarBack, StandsFor as HistoryStandsFor}
use Rattle.crs_instance.specs.Instances.{InstanceState}
use Rattle.crs_instance.specs.Followed.{Follows}
use Rattle.crs_living.specs.Ahead.{MayBecome, IsWanted, AreAhead}
pub use Rattle.crs_living.specs.Parts.{parts, AllOf}
use Rattle.crs_waiting.specs.Hooks.{LooksFor}
use Rattle.crs_waiting.specs.Orders.{AreBehind}
use Rattle.crs_focus.specs.PlanLevels.{levels_in}

-- a store, as contracts see it: of what is held, the first ones have places, as many as `placed` says
pub record StoreState : Type 0 where
  pub plan : Plan
  pub number : ℕ
  pub focus : Bool
  pub ranks : List ℕ
  pub held : List InstanceState
  pub placed : ℕ
  pub date : ℕ
  pub stopped : Bool

-- a store of a proper plan, and instances of the plan, judged last at a date up to 2^42; levels of a prompt chronicle aren't read
pub record IsStore (s : StoreState) : Type 0 where
  pub proper : IsProper s.plan
  pub instances : AllOf s.plan s.held
  pub early : s.date ≤ 2 ^ 42
  pub flat : s.plan.chronicle.prompt ≡ true → s.focus ≡ false

-- the level of each event of the plan, as the store reads it
abbrev pub levels_of : StoreState → ℕ → ℕ
levels_of s = levels_in s.plan s.focus

-- What is held is exactly what can still be recognised and wasn't, with the progress of its windows, and was judged last at d.
pub record Stands (s : StoreState) (was pool entries : List (Entry Sym)) (d g : ℕ) : Type 0 where
  pub stands : StandsFor (chronicle s.plan) (levels_of s) AllWanted (parts s.held) was pool entries d g
  pub follows : AllByRecursion (Follows s.plan entries d) s.held
  pub judged : s.date ≡ d

-- the plan, the number, the focus and the ranks stay
pub record IsSameStore (old new : StoreState) : Type 0 where
  pub plan : new.plan ≡ old.plan
  pub number : new.number ≡ old.number
  pub focus : new.focus ≡ old.focus
  pub ranks : new.ranks ≡ old.ranks

-- where each that is held had a place, each has one
abbrev pub KeepsPlaces : StoreState → StoreState → Type 0
KeepsPlaces old new = old.placed ≡ length old.held → new.placed ≡ length new.held

-- The same where the later entries come next, up to h: what can't be recognised with them may be left out.
pub record StandsAhead (s : StoreState) (was pool entries later : List (Entry Sym)) (d g h : ℕ) : Type 0 where
  pub stands : StandsFor (chronicle s.plan) (levels_of s) (IsWanted (chronicle s.plan) (levels_of s) pool entries later h) (parts s.held) was pool entries d g
  pub follows : AllByRecursion (Follows s.plan entries d) s.held
  pub judged : s.date ≡ d

-- The same where some entries are coming to the pool before h, which makes it the whole pool, and all entries are settled by then: what can't be recognised with those may be left out.
pub record StandsComing (s : StoreState) (whole all coming was pool entries : List (Entry Sym)) (d g h : ℕ) : Type 0 where
  pub stands : StandsFor (chronicle s.plan) (levels_of s) (MayBecome (chronicle s.plan) (levels_of s) whole all coming h) (parts s.held) was pool entries d g
  pub follows : AllByRecursion (Follows s.plan entries d) s.held
  pub judged : s.date ≡ d

-- After x was offered, whose arrival number is new, whose date isn't before d, and which the history has as its last, and all was judged at its date. The pool is what is settled, which are fewer than 2^32, and g is the horizon of the last mark.
abbrev pub IsOffered : StoreState → HistoryState → Entry Sym → StoreState → Type 0
IsOffered old history x new =
    (was settled : List (Entry Sym)) (d g : ℕ) → Stands old was settled settled d g →
    HistoryStandsFor (settled ++ x ∷ []) history → IsFarBack old.plan.reach g history.floor → length (settled ++ x ∷ []) < 2 ^ 32 → IsFresh settled x → d ≤ x.date →
    Stands new was (settled ++ x ∷ []) (settled ++ x ∷ []) x.date g

-- the same, judged at a date, where x and then the later entries come next, of which the store is told which are ahead of all that are dated at or after a date, and whether they are behind x by the ranks of their names
abbrev pub IsOfferedAt : StoreState → HistoryState → Entry Sym → ℕ → List (Entry Sym) → ℕ → Bool → StoreState → Type 0
IsOfferedAt old history x n ahead beyond behind new =
    (was settled later : List (Entry Sym)) (d g h : ℕ) → StandsAhead old was settled settled (x ∷ later) d g h → AreAhead ahead beyond later h → (behind ≡ true → AreBehind old.ranks x later h) →
    HistoryStandsFor (settled ++ x ∷ []) history → IsFarBack old.plan.reach g history.floor → length (settled ++ x ∷ []) < 2 ^ 32 → IsFresh settled x → d ≤ x.date →
    StandsAhead new was (settled ++ x ∷ []) (settled ++ x ∷ []) later n g h

-- the same, judged at a date that isn't before d nor after `until`, and at `until` where the chronicle looks for entries of the name of x
abbrev pub IsOfferedUntil : StoreState → HistoryState → Entry Sym → ℕ → List (Entry Sym) → ℕ → Bool → StoreState → Type 0
IsOfferedUntil old history x until ahead beyond behind new =
    (was settled later : List (Entry Sym)) (d g h : ℕ) → StandsAhead old was settled settled (x ∷ later) d g h → AreAhead ahead beyond later h → (behind ≡ true → AreBehind old.ranks x later h) →
    HistoryStandsFor (settled ++ x ∷ []) history → IsFarBack old.plan.reach g history.floor → length (settled ++ x ∷ []) < 2 ^ 32 → IsFresh settled x → d ≤ x.date →
    (n : ℕ) × (d ≤ n) × (n ≤ until) × (LooksFor (chronicle old.plan) x.name → n ≡ until) × StandsAhead new was (settled ++ x ∷ []) (settled ++ x ∷ []) later n g h

-- where the chronicle doesn't look for entries of the name of x, the store was offered x as it is
abbrev pub PassesOver : StoreState → Type 0
PassesOver s =
    (history : HistoryState) (x : Entry Sym) (until : ℕ) (ahead : List (Entry Sym)) (beyond : ℕ) (behind : Bool) → x.date ≤ until → (LooksFor (chronicle s.plan) x.name → ⊥) → IsOfferedUntil s history x until ahead beyond behind s

-- after x came to the pool of a prompt chronicle, whose arrival number is new there, and whose date isn't before g; the history stands for what is settled, and x isn't among it
abbrev pub IsOfferedPrompt : StoreState → HistoryState → Entry Sym → StoreState → Type 0
IsOfferedPrompt old history x new =
    (was pool settled : List (Entry Sym)) (g : ℕ) → Stands old was pool settled g g →
    HistoryStandsFor settled history → IsFarBack old.plan.reach g history.floor → length settled < 2 ^ 32 → IsFresh pool x → g ≤ x.date →
    Stands new was (pool ++ x ∷ []) settled g g

-- the same where others are coming, of which the store is told which are ahead of all that are dated at or after a date
abbrev pub IsOfferedPromptAhead : StoreState → HistoryState → Entry Sym → List (Entry Sym) → ℕ → StoreState → Type 0
IsOfferedPromptAhead old history x ahead beyond new =
    (whole all coming was pool settled : List (Entry Sym)) (g h : ℕ) → StandsComing old whole all (x ∷ coming) was pool settled g g h → AreAhead ahead beyond coming h →
    HistoryStandsFor settled history → IsFarBack old.plan.reach g history.floor → length settled < 2 ^ 32 → IsFresh pool x → g ≤ x.date →
    StandsComing new whole all coming was (pool ++ x ∷ []) settled g g h

-- after x was settled, which is of the pool, whose date isn't before d, and which the history has as its last
abbrev pub IsSettledWith : StoreState → HistoryState → Entry Sym → StoreState → Type 0
IsSettledWith old history x new =
    (was pool settled : List (Entry Sym)) (d g : ℕ) → Stands old was pool settled d g →
    HistoryStandsFor (settled ++ x ∷ []) history → IsFarBack old.plan.reach g history.floor → length (settled ++ x ∷ []) < 2 ^ 32 → IsIn x pool → d ≤ x.date →
    Stands new was pool (settled ++ x ∷ []) x.date g

-- the same where others are coming
abbrev pub IsSettledComing : StoreState → HistoryState → Entry Sym → StoreState → Type 0
IsSettledComing old history x new =
    (whole all coming was pool settled : List (Entry Sym)) (d g h : ℕ) → StandsComing old whole all coming was pool settled d g h →
    HistoryStandsFor (settled ++ x ∷ []) history → IsFarBack old.plan.reach g history.floor → length (settled ++ x ∷ []) < 2 ^ 32 → IsIn x pool → d ≤ x.date →
    StandsComing new whole all coming was pool (settled ++ x ∷ []) x.date g h
