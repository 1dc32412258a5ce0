-- Which events come first, where entries come by their dates and, at one date, by the ranks of their names.
use Rattle.std.specs.Prelude.{◌≡◌, ◌≢◌, ◌⊎◌, ◌≤◌, ◌<◌, ◌<ℤ◌, ℕ, ℤ, pos, List, length, Bool, true, false, Some, None, IfSome, slice_get, slice_index_or}
use Rattle.crs_base.specs.declared.symbols.Sym.{Sym}
use Rattle.crs_base.specs.Entry.{Entry}
use Rattle.crs_base.specs.Words.{IsIn}
use Rattle.crs_stn.specs.Table.{most_of}
use Rattle.crs_model.specs.declared.plan.Plan.{Plan}
use Rattle.crs_model.specs.Partial.{Partial, at, IsAwaited}
use Rattle.crs_model.specs.Plans.{chronicle}
use Rattle.crs_waiting.specs.declared.hooks.Hook.{Hook}
use Rattle.crs_waiting.specs.Links.{hook_at}
use Rattle.crs_focus.specs.PlanLevels.{levels_in}

-- the rank of a name, which is 0 where none is told
abbrev pub rank_of : List ℕ → Sym → ℕ
rank_of ranks s = slice_index_or ranks s.0 0

-- the name of the event f has a lesser rank than that of e
abbrev pub IsRankedBefore : Plan → List ℕ → ℕ → ℕ → Type 0
IsRankedBefore plan ranks f e = IfSome (slice_get (chronicle plan).events f) (λ v. IfSome (slice_get (chronicle plan).events e) (λ w. rank_of ranks v.pattern.name < rank_of ranks w.pattern.name))

-- f is another event of the level of e, and by the bounds it comes before e, or no later and its name has the lesser rank
pub record ComesFirst (plan : Plan) (focus : Bool) (ranks : List ℕ) (f e : ℕ) : Type 0 where
  pub within : f < length plan.chronicle.events
  pub apart : f ≢ e
  pub level : levels_in plan focus f ≡ levels_in plan focus e
  pub most : ℤ
  pub is_most : most_of plan.network e f ≡ Some most
  pub before : (most <ℤ pos 0) ⊎ ((most ≡ pos 0) × IsRankedBefore plan ranks f e)

-- the chronicle isn't prompt, and the event f comes before e
abbrev pub IsBeforeAt : Plan → Bool → List ℕ → ℕ → ℕ → Type 0
IsBeforeAt plan focus ranks e f = (plan.chronicle.prompt ≡ false) × ComesFirst plan focus ranks f e

-- P holds of the number of each hook and of the event that it names
abbrev pub AllBefore : (ℕ → ℕ → Type 0) → List Hook → Type 0
AllBefore P hooks = (e f : ℕ) → (hook_at hooks e).before ≡ Some f → P e f

-- what the hook of an event names comes before the event
pub record AreOrdered (plan : Plan) (focus : Bool) (ranks : List ℕ) (hooks : List Hook) : Type 0 where
  pub each : AllBefore (IsBeforeAt plan focus ranks) hooks

-- the event that the hook names is unbound
abbrev pub IsUnboundBefore : Hook → Partial Sym → Type 0
IsUnboundBefore hook a = (f : ℕ) × (hook.before ≡ Some f) × (at a f ≡ None)

-- y is dated after x, or at the same date with no lesser a rank
abbrev pub IsBehind : List ℕ → Entry Sym → Entry Sym → Type 0
IsBehind ranks x y = (x.date < y.date) ⊎ ((x.date ≡ y.date) × (rank_of ranks x.name ≤ rank_of ranks y.name))

-- x is dated before h, and each of the later entries is behind it
pub record AreBehind (ranks : List ℕ) (x : Entry Sym) (later : List (Entry Sym)) (h : ℕ) : Type 0 where
  pub each : (y : Entry Sym) → IsIn y later → IsBehind ranks x y
  pub within : x.date < h

-- where such are passed over: it has x at an event, and awaits one that comes before that
abbrev pub IsOvertaken : Plan → Bool → List Hook → Bool → Entry Sym → Partial Sym → Type 0
IsOvertaken plan focus hooks skips x a = (skips ≡ true) × ((e : ℕ) × (f : ℕ) × (at a e ≡ Some x) × ((hook_at hooks e).before ≡ Some f) × IsAwaited (levels_in plan focus) a f)
