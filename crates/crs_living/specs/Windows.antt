-- What instances know of their windows: as entries are settled, as dates pass, and as events are bound.
use Rattle.std.specs.Prelude.{◌≡◌, ◌≤◌, ◌<◌, ◌^◌, ◌-◌, ℕ, ℤ, pos, ◌≤ℤ◌, List, [], ◌∷◌, ◌++◌, length, Bool, Option, Some, IfSome, slice_get}
use Rattle.crs_base.specs.declared.symbols.Sym.{Sym}
use Rattle.crs_base.specs.Words.{IsIn}
use Rattle.crs_base.specs.Entry.{Entry}
use Rattle.crs_model.specs.declared.plan.Plan.{Plan}
use Rattle.crs_model.specs.declared.progress.Progress.{Progress}
use Rattle.crs_model.specs.Bindings.{look_of, Looser}
use Rattle.crs_model.specs.Partial.{Partial, at, IsLevelClosed, CanGoOn}
use Rattle.crs_model.specs.Plans.{chronicle}
use Rattle.crs_model.specs.Open.{IsOpen}
use Rattle.crs_model.specs.Verdicts.{IsStretch, BodyIsBound}
use Rattle.crs_model.specs.HasProgress.{IsProgress, IsMetBy, NoneLostBy}
use Rattle.crs_history.specs.Histories.{HistoryState, IsFarBack, StandsFor}
use Rattle.crs_instance.specs.Instances.{InstanceState, progress_at}
use Rattle.crs_instance.specs.Followed.{Follows}
use Rattle.crs_focus.specs.PlanLevels.{levels_in}

-- What can be read at a date: the history stands for the entries, which are fewer than 2^32, and goes far enough back.
pub record IsRead (plan : Plan) (history : HistoryState) (entries : List (Entry Sym)) (n : ℕ) : Type 0 where
  pub kept : StandsFor entries history
  pub few : length entries < 2 ^ 32
  pub far : IsFarBack plan.reach n history.floor

-- where the window of this number has begun for a partial assignment and a binding, p is its progress at d over the entries
abbrev pub HasAt : Plan → Partial Sym → List (Option Sym) → List (Entry Sym) → ℕ → ℕ → Progress → Type 0
HasAt plan a b entries d k p =
    IfSome (slice_get (chronicle plan).windows k) (λ w. (from to : ℤ) → IsStretch a w from to → BodyIsBound (look_of b) w.body → IsProgress entries (look_of b) w.body from to (pos d) p.count p.broken)

-- from p to q, as x is settled: the count doesn't fall
abbrev pub Settles : Plan → Entry Sym → Partial Sym → List (Option Sym) → ℕ → Progress → Progress → Type 0
Settles plan x a b k p q =
    ((entries : List (Entry Sym)) (d : ℕ) → d ≤ x.date → length entries < 2 ^ 32 - 1 → HasAt plan a b entries d k p → HasAt plan a b (entries ++ x ∷ []) d k q) × (p.count ≤ q.count)

-- from p to q, as dates pass: the count doesn't fall
abbrev pub Passes : Plan → HistoryState → ℕ → ℕ → Partial Sym → List (Option Sym) → ℕ → Progress → Progress → Type 0
Passes plan history since h a b k p q =
    ((entries : List (Entry Sym)) → since ≤ h → StandsFor entries history → history.floor ≤ℤ pos since → HasAt plan a b entries since k p → HasAt plan a b entries h k q) × (p.count ≤ q.count)

-- the window's stretch doesn't start before the floor
abbrev pub StartsAfter : Plan → Partial Sym → ℕ → ℤ → Type 0
StartsAfter plan a k floor = IfSome (slice_get (chronicle plan).windows k) (λ w. (from to : ℤ) → IsStretch a w from to → floor ≤ℤ from)

-- it has what the other has
abbrev pub HasMore : InstanceState → InstanceState → Type 0
HasMore old new = ((e : ℕ) (x : Entry Sym) → at old.partial e ≡ Some x → at new.partial e ≡ Some x) × Looser (look_of old.binding) (look_of new.binding)

-- q is the window's progress for an instance that has more than its parent
abbrev pub Begins : Plan → HistoryState → ℕ → InstanceState → InstanceState → ℕ → Progress → Type 0
Begins plan history h parent fork k q =
    (entries : List (Entry Sym)) → StandsFor entries history → length entries < 2 ^ 32 → StartsAfter plan fork.partial k history.floor → HasMore parent fork
    → HasAt plan parent.partial parent.binding entries h k (progress_at parent.progress k) → HasAt plan fork.partial fork.binding entries h k q

-- only the progress of windows changed
pub record IsSameInstance (old new : InstanceState) : Type 0 where
  pub same : new ≡ record old { progress = new.progress }
  pub len : length new.progress ≡ length old.progress

-- no window's count fell
abbrev pub Gains : InstanceState → InstanceState → Type 0
Gains old new = (k : ℕ) → (progress_at old.progress k).count ≤ (progress_at new.progress k).count

-- as x is settled, and the dates up to its date pass
pub record IsFollowed (plan : Plan) (history : HistoryState) (x : Entry Sym) (since : ℕ) (old new : InstanceState) : Type 0 where
  pub same : IsSameInstance old new
  pub gains : Gains old new
  pub follows : (settled : List (Entry Sym)) → since ≤ x.date → IsRead plan history (settled ++ x ∷ []) since → history.floor ≤ℤ pos since → Follows plan settled since old → Follows plan (settled ++ x ∷ []) x.date new

-- as the dates up to h pass
pub record IsPassed (plan : Plan) (history : HistoryState) (since h : ℕ) (old new : InstanceState) : Type 0 where
  pub same : IsSameInstance old new
  pub gains : Gains old new
  pub follows : (settled : List (Entry Sym)) → since ≤ h → IsRead plan history settled since → history.floor ≤ℤ pos since → Follows plan settled since old → Follows plan settled h new

-- its windows that hadn't begun for the parent begin
pub record IsBegun (plan : Plan) (history : HistoryState) (h : ℕ) (parent old new : InstanceState) : Type 0 where
  pub same : IsSameInstance old new
  pub follows : (entries : List (Entry Sym)) → StandsFor entries history → length entries < 2 ^ 32 → ((k : ℕ) → StartsAfter plan old.partial k history.floor) → HasMore parent old → Follows plan entries h parent → Follows plan entries h new

-- its dates can go on at h, and no window is lost as its progress tells
abbrev pub IsAble : Plan → Bool → ℕ → InstanceState → Type 0
IsAble plan focus h i = CanGoOn (chronicle plan) (levels_in plan focus) i.partial h × NoneLostBy (chronicle plan) (look_of i.binding) i.partial h (λ k. (progress_at i.progress k).count) (λ k. (progress_at i.progress k).broken)

-- the window has begun, and is met at h as this progress tells
abbrev pub IsMetWith : Plan → ℕ → InstanceState → ℕ → Progress → Type 0
IsMetWith plan h i k p =
    IfSome (slice_get (chronicle plan).windows k) (λ w. (from : ℤ) × (to : ℤ) × IsStretch i.partial w from to × BodyIsBound (look_of i.binding) w.body × IsMetBy w.body to (pos h) p.count p.broken)

-- as its own tells
abbrev pub IsMetAt : Plan → ℕ → InstanceState → ℕ → Type 0
IsMetAt plan h i k = IsMetWith plan h i k (progress_at i.progress k)

-- its entries are of the pool, it is level-closed, and it has the progress of its windows at n over the entries
pub record IsOver (plan : Plan) (focus : Bool) (pool entries : List (Entry Sym)) (n : ℕ) (i : InstanceState) : Type 0 where
  pub given : (e : ℕ) (y : Entry Sym) → at i.partial e ≡ Some y → IsIn y pool
  pub closed : IsLevelClosed (levels_in plan focus) i.partial
  pub follows : Follows plan entries n i

abbrev pub IsOpenAt : Plan → Bool → List (Entry Sym) → List (Entry Sym) → ℕ → Partial Sym → Type 0
IsOpenAt plan focus pool entries n a = IsOpen (chronicle plan) (levels_in plan focus) pool entries n a

-- open, and not left out
abbrev pub IsOpenBut : Plan → Bool → (Partial Sym → Type 0) → List (Entry Sym) → List (Entry Sym) → ℕ → Partial Sym → Type 0
IsOpenBut plan focus Out pool entries n a = IsOpenAt plan focus pool entries n a × (Out a → ⊥)
