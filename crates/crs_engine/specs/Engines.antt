-- Engines, and what they stand for.
use Rattle.std.specs.Prelude.{◌≡◌, ◌<◌, ◌≤◌, ◌≤ℤ◌, ◌-ℤ◌, pos, ◌+◌, ◌-◌, ◌^◌, ◌↔◌, ℕ, ℤ, suc, Option, Some, None, List, [], ◌∷◌, ◌++◌, map, filter, not, nat_lt, min, max, sum, length, Bool, true, false}
use Rattle.std.specs.List.{AllByRecursion, AllZip, list_any}
use Rattle.std.specs.declared.cmp.Ordering.TheVariants.{Less}
use Rattle.crs_base.specs.declared.symbols.Sym.{Sym}
use Rattle.crs_base.specs.Words.{IsIn, Ordered}
use Rattle.crs_base.specs.Entry.{Entry, entry_cmp, IsInKeyOrder}
use Rattle.crs_model.specs.declared.plan.Plan.{Plan}
use Rattle.crs_model.specs.declared.plan.Plans.{Plans}
use Rattle.crs_model.specs.Matching.{AreDistinct}
use Rattle.crs_model.specs.Levels.{reads_levels}
use Rattle.crs_model.specs.Order.{arrived}
use Rattle.crs_model.specs.Plans.{chronicle}
use Rattle.crs_model.specs.Reach.{IsReachOfAll, IsSmallSpan}
use Rattle.crs_model.specs.Scopes.{Scope, scope_of}
use Rattle.crs_history.specs.Histories.{HistoryState, lowest, IsFarBack, StandsFor as HistoryStandsFor}
use Rattle.crs_store.specs.Stores.{StoreState, Stands}

-- An engine, as contracts see it. `fresh` are those of the waiting entries that were accepted since the last mark, and `marked` is how many were accepted by it.
pub record EngineState : Type 0 where
  pub plans : Plans
  pub stores : List StoreState
  pub history : HistoryState
  pub waiting : List (Entry Sym)
  pub fresh : List (Entry Sym)
  pub delay : ℕ
  pub last : ℕ
  pub horizon : ℕ
  pub accepted : ℕ
  pub marked : ℕ
  pub limit : ℕ
  pub focus : Bool
  pub stopped : Bool

abbrev pub plans_of : Plans → List Plan
plans_of ps = map (λ r. r.value) ps.plans

-- the reach of each plan
abbrev pub reaches_of : Plans → List (Option ℤ)
reaches_of ps = map (λ p. p.reach) (plans_of ps)

-- the floor of the history after a mark: the horizon less the reach, and the first floor of all where the reach is infinite
abbrev pub floor_at : Option ℤ → ℕ → ℤ
floor_at None h = lowest
floor_at (Some reach) h = pos h -ℤ reach

module _ {S : Type 0} where
  -- the entries dated at or after h
  abbrev pub since : ℕ → List (Entry S) → List (Entry S)
  since h entries = filter (λ e. not (nat_lt e.date h)) entries

  -- the arrival numbers are the numbers below n, each once
  pub record HaveNumbersBelow (n : ℕ) (entries : List (Entry S)) : Type 0 where
    pub distinct : AreDistinct entries
    pub numbers : (k : ℕ) → (k < n) ↔ IsIn k (map (λ e. e.arrival) entries)

-- what recognition of a plan's chronicle reads at h, where so many had been accepted by the last mark
abbrev pub scope_at : ℕ → List (Entry Sym) → List (Entry Sym) → ℕ → Plan → Scope Sym
scope_at marked settled waiting h p = scope_of (chronicle p) settled (arrived marked (settled ++ waiting)) h

-- whether one of the plans is of a prompt chronicle
abbrev pub has_prompt : Plans → Bool
has_prompt ps = list_any (λ p. p.chronicle.prompt) (plans_of ps)

-- those of the entries that hadn't arrived when so many were accepted
abbrev pub not_arrived : ℕ → List (Entry Sym) → List (Entry Sym)
not_arrived n entries = filter (λ e. not (nat_lt e.arrival n)) entries

-- a store of the plan that reads levels or not as given, and stands for its pool and for the entries settled at h
pub record IsStoreAt (focus : Bool) (marked : ℕ) (settled waiting : List (Entry Sym)) (h : ℕ) (p : Plan) (s : StoreState) : Type 0 where
  pub plan : s.plan ≡ p
  pub focus_is : s.focus ≡ reads_levels (chronicle p) focus
  pub stands : Stands s (scope_at marked settled waiting h p).pool (scope_at marked settled waiting h p).pool settled h h

-- The settled entries are dated before the horizon and the waiting ones at or after it. All are in key order, and have the arrival numbers below the count of accepted ones. The settled ones were accepted by the last mark. The buffer holds the waiting ones and, where some chronicle is prompt, those of them that were accepted since the last mark. The history stands for the settled ones, each plan's store for its pool and them, and the history goes far enough back for each plan.
pub record StandsFor (e : EngineState) (settled waiting : List (Entry Sym)) : Type 0 where
  pub settled_before : AllByRecursion (λ x. x.date < e.horizon) settled
  pub waiting_after : AllByRecursion (λ x. e.horizon ≤ x.date) waiting
  pub in_order : Ordered (λ x y. entry_cmp x y ≡ Less) (settled ++ waiting)
  pub numbered : HaveNumbersBelow e.accepted (settled ++ waiting)
  pub held : e.waiting ≡ waiting
  pub counted : e.marked ≤ e.accepted
  pub arrived_settled : AllByRecursion (λ x. x.arrival < e.marked) settled
  pub fresh_is : has_prompt e.plans ≡ true → e.fresh ≡ not_arrived e.marked waiting
  pub history : HistoryStandsFor settled e.history
  pub far_back : AllByRecursion (λ p. IsFarBack p.reach e.horizon e.history.floor) (plans_of e.plans)
  pub stores : AllZip (IsStoreAt e.focus e.marked settled waiting e.horizon) (plans_of e.plans) e.stores

-- how many partial assignments are held, or 2^64 - 1 where there are more
abbrev pub kept_of : EngineState → ℕ
kept_of e = min (sum (map (λ s. length s.held) e.stores)) (2 ^ 64 - 1)

-- an engine of the plans at the start
pub record IsNewEngine (plans : Plans) (focus : Bool) (limit : ℕ) (e : EngineState) : Type 0 where
  pub same_plans : e.plans ≡ plans
  pub same_focus : e.focus ≡ focus
  pub same_limit : e.limit ≡ limit
  pub no_delay : e.delay ≡ 0
  pub no_clock : e.last ≡ 0
  pub at_start : e.horizon ≡ 0
  pub none_accepted : e.accepted ≡ 0
  pub none_marked : e.marked ≡ 0
  pub running : e.stopped ≡ false

-- a store of the plan, with this number, that reads levels or not as given
pub record IsStoreOf (focus : Bool) (p : Plan) (n : ℕ) (s : StoreState) : Type 0 where
  pub plan : s.plan ≡ p
  pub number : s.number ≡ n
  pub focus_is : s.focus ≡ reads_levels (chronicle p) focus

-- the stores are those of the plans, numbered from n
abbrev pub AreStoresOf : Bool → List Plan → ℕ → List StoreState → Type 0
AreStoresOf focus [] n [] = Unit {0}
AreStoresOf focus [] n (s ∷ ss) = ⊥
AreStoresOf focus (p ∷ ps) n [] = ⊥
AreStoresOf focus (p ∷ ps) n (s ∷ ss) = IsStoreOf focus p n s × AreStoresOf focus ps (suc n) ss

-- it is dated below 2^40, and arrived before the n-th
pub record IsWaiting (n : ℕ) (x : Entry Sym) : Type 0 where
  pub dated : x.date < 2 ^ 40
  pub arrived : x.arrival < n

-- what holds of each engine
pub record IsEngine (e : EngineState) : Type 0 where
  pub stores : AreStoresOf e.focus (plans_of e.plans) 0 e.stores
  pub waiting : AllByRecursion (IsWaiting e.accepted) e.waiting
  pub few : e.accepted ≤ e.limit
  pub limited : e.limit < 2 ^ 32
  pub not_late : e.horizon ≤ 2 ^ 42
  pub in_order : IsInKeyOrder (e.history.entries ++ e.waiting)
  pub reach : IsReachOfAll (reaches_of e.plans) e.plans.reach
  pub small : IsSmallSpan e.plans.reach
  pub due : AllByRecursion (λ x. e.horizon ≤ x.date) e.waiting
  pub least : lowest ≤ℤ e.history.floor
  pub needed : e.history.floor ≤ℤ floor_at e.plans.reach e.horizon
  pub settled : e.stopped ≡ false → AllByRecursion (λ x. x.date < e.horizon) e.history.entries
  pub fresh : e.stopped ≡ false → AllByRecursion (IsWaiting e.accepted) e.fresh

-- an entry was accepted
pub record HasAccepted (old new : EngineState) : Type 0 where
  pub same_plans : new.plans ≡ old.plans
  pub same_focus : new.focus ≡ old.focus
  pub same_limit : new.limit ≡ old.limit
  pub same_delay : new.delay ≡ old.delay
  pub same_clock : new.last ≡ old.last
  pub same_horizon : new.horizon ≡ old.horizon
  pub same_marked : new.marked ≡ old.marked
  pub one_more : new.accepted ≡ old.accepted + 1

-- the clock moved on to t, and the horizon to h where that is the greater
pub record HasMoved (old new : EngineState) (t h : ℕ) : Type 0 where
  pub same_plans : new.plans ≡ old.plans
  pub same_focus : new.focus ≡ old.focus
  pub same_limit : new.limit ≡ old.limit
  pub same_delay : new.delay ≡ old.delay
  pub same_count : new.accepted ≡ old.accepted
  pub clock : new.last ≡ t
  pub moved : new.horizon ≡ max old.horizon h
  pub marked : new.marked ≡ old.accepted
