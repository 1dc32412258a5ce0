-- What comes of an instance as events are decided on: each is bound to an entry that is there, or left.
use Rattle.std.specs.Prelude.{◌≡◌, ◌≤◌, ℕ, List, [], ◌∷◌, ◌++◌, Bool, Some}
use Rattle.std.specs.List.{AllByRecursion}
use Rattle.crs_base.specs.declared.symbols.Sym.{Sym}
use Rattle.crs_base.specs.Words.{IsIn}
use Rattle.crs_base.specs.Entry.{Entry}
use Rattle.crs_history.specs.Histories.{HistoryState}
use Rattle.crs_instance.specs.Instances.{InstanceState}
use Rattle.crs_model.specs.declared.plan.Plan.{Plan}
use Rattle.crs_model.specs.Images.{IsImage}
use Rattle.crs_model.specs.Partial.{Partial, at, IsLevelClosed}
use Rattle.crs_model.specs.Scans.{Decides, DecidesWith, StartsAt}
use Rattle.crs_model.specs.Steps.{GoesOn}
use Rattle.crs_focus.specs.PlanLevels.{levels_in}
use Rattle.crs_living.specs.Parts.{AllOf, parts}
use Rattle.crs_living.specs.Now.{IsNow}
use Rattle.crs_living.specs.Windows.{IsAble, IsOpenAt, IsOver}

-- the list grew by what is told, which are instances of the plan that are able at n
pub record Adds (plan : Plan) (focus : Bool) (n : ℕ) (Are : List InstanceState → Type 0) (old new : List InstanceState) : Type 0 where
  pub more : List InstanceState
  pub grown : new ≡ old ++ more
  pub of : AllOf plan more
  pub able : AllByRecursion (IsAble plan focus n) more
  pub are : Are more

-- on the way from the parent: it has what the parent has, and x, and only entries of the pool, and is level-closed
pub record IsOnTheWay (plan : Plan) (focus : Bool) (pool : List (Entry Sym)) (x : Entry Sym) (parent next : InstanceState) : Type 0 where
  pub has : (e : ℕ) (y : Entry Sym) → at parent.partial e ≡ Some y → at next.partial e ≡ Some y
  pub given : (e : ℕ) (y : Entry Sym) → at next.partial e ≡ Some y → IsIn y pool
  pub bound : (e : ℕ) × (at next.partial e ≡ Some x)
  pub closed : IsLevelClosed (levels_in plan focus) next.partial

-- so it is where the parent is over the entries that can be read at a date, and the instance is on the way from it: what comes of the ones, where that is open at the later date, and is over the entries then
abbrev pub ComeOn : {A : Type 0} → ((Partial Sym → Type 0) → A → Partial Sym → Type 0) → Plan → Bool → HistoryState → Entry Sym → ℕ → ℕ → InstanceState → InstanceState → List A → List InstanceState → Type 0
ComeOn From plan focus history x since until parent next ones out =
    (pool entries : List (Entry Sym)) → IsNow plan focus history x since pool entries → since ≤ until → IsOver plan focus pool entries since parent → IsOnTheWay plan focus pool x parent next
    → IsImage (From (IsOpenAt plan focus pool entries until)) ones (parts out) × AllByRecursion (IsOver plan focus pool entries until) out

-- itself, where it is able
abbrev pub IsKeptIfAble : Plan → Bool → HistoryState → Entry Sym → ℕ → ℕ → InstanceState → InstanceState → List InstanceState → Type 0
IsKeptIfAble plan focus history x since until parent next out = ComeOn (λ Fine. GoesOn Fine) plan focus history x since until parent next (next.partial ∷ []) out

-- what can be decided from it on, where some events of level l are to be decided on
abbrev pub IsDecided : Plan → Bool → HistoryState → Entry Sym → ℕ → ℕ → InstanceState → InstanceState → ℕ → List ℕ → List InstanceState → Type 0
IsDecided plan focus history x since until parent next l todo out =
    ComeOn (λ Fine. Decides (levels_in plan focus) Fine l todo) plan focus history x since until parent next (next.partial ∷ []) out

-- the same, where the event e is bound to one of the entries first
abbrev pub AreDecidedWith : Plan → Bool → HistoryState → Entry Sym → ℕ → ℕ → InstanceState → InstanceState → ℕ → List ℕ → ℕ → List (Entry Sym) → List InstanceState → Type 0
AreDecidedWith plan focus history x since until parent next l rest e ys out =
    ComeOn (λ Fine. DecidesWith (levels_in plan focus) Fine l rest next.partial e) plan focus history x since until parent next ys out

-- the same with each entry that it can be bound to
pub record IsDecidedAt (plan : Plan) (focus : Bool) (history : HistoryState) (x : Entry Sym) (since until : ℕ) (parent next : InstanceState) (l : ℕ) (rest : List ℕ) (e : ℕ) (out : List InstanceState) : Type 0 where
  pub ys : List (Entry Sym)
  pub enough : (pool entries : List (Entry Sym)) → IsNow plan focus history x since pool entries → IsOnTheWay plan focus pool x parent next
      → (y : Entry Sym) (b : Partial Sym) → Decides (levels_in plan focus) (IsOpenAt plan focus pool entries until) l (rest ++ e ∷ []) next.partial b → at b e ≡ Some y → IsIn y ys
  pub decided : AreDecidedWith plan focus history x since until parent next l rest e ys out

-- what has x at the event e, which the instance awaits
abbrev pub AreForksAt : Plan → Bool → HistoryState → Entry Sym → ℕ → ℕ → InstanceState → ℕ → List InstanceState → Type 0
AreForksAt plan focus history x since until i e out =
    (pool entries : List (Entry Sym)) → IsNow plan focus history x since pool entries → since ≤ until → IsOver plan focus pool entries since i
    → IsImage (StartsAt (levels_in plan focus) (IsOpenAt plan focus pool entries until) x i.partial) (e ∷ []) (parts out) × AllByRecursion (IsOver plan focus pool entries until) out
