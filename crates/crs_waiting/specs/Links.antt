-- For what instances wait.
use Rattle.std.specs.Prelude.{if◌then◌else◌, ◌^◌, ◌≡◌, ◌+◌, ◌+ℤ◌, ◌<ℤ◌, ◌≤ℤ◌, ℕ, ℤ, pos, List, Bool, Option, Some, None, IfSome, slice_get, slice_index_or}
use Rattle.crs_agenda.specs.declared.timed.Handle.{Handle}
use Rattle.crs_base.specs.declared.symbols.Sym.{Sym}
use Rattle.crs_index.specs.declared.key.Key.{Key}
use Rattle.crs_index.specs.Indexes.{IndexState}
use Rattle.crs_instance.specs.Instances.{InstanceState, window_at, progress_at}
use Rattle.crs_model.specs.Bindings.{look_of}
use Rattle.crs_model.specs.HasProgress.{IsEnough}
use Rattle.crs_model.specs.Models.{Window}
use Rattle.crs_model.specs.Partial.{Partial, IsAwaited}
use Rattle.crs_model.specs.Plans.{chronicle}
use Rattle.crs_model.specs.Verdicts.{IsStretch, BodyIsBound}
use Rattle.crs_model.specs.declared.plan.Plan.{Plan}
use Rattle.crs_waiting.specs.declared.hooks.Hook.{Hook}
use Rattle.crs_focus.specs.PlanLevels.{levels_in}
use Rattle.crs_waiting.specs.Hooks.{Waits, key_of}

-- the hook of this number
abbrev pub hook_at : List Hook → ℕ → Hook
hook_at hooks n = slice_index_or hooks n (record { name = record { 0 = 0 }; first = None; second = None; third = None; before = None })

-- the event can come by the date
abbrev pub CanStart : InstanceState → ℕ → ℕ → Type 0
CanStart i e d = IfSome (window_at i.windows e).least (λ m. m ≤ℤ pos d)

-- by which date an awaited event can come for which an instance waits that was judged at d: of a prompt chronicle each, whatever its date
abbrev pub linked_by : Plan → ℕ → ℕ
linked_by plan d = if plan.chronicle.prompt then 2 ^ 42 else d

-- an event that comes before the hook's is awaited
abbrev pub IsHeldBack : (ℕ → ℕ) → Hook → Partial Sym → Type 0
IsHeldBack level hook a = (f : ℕ) × (hook.before ≡ Some f) × IsAwaited level a f

-- the event is awaited, and the one that the hook says comes before it isn't
pub record IsNext (level : ℕ → ℕ) (hook : Hook) (a : Partial Sym) (e : ℕ) : Type 0 where
  pub awaited : IsAwaited level a e
  pub free : IsHeldBack level hook a → ⊥

-- the handle waits for each next event that can come by the date
abbrev pub IsLinked : Plan → Bool → List Hook → IndexState → Handle → ℕ → InstanceState → Type 0
IsLinked plan focus hooks index handle d i =
    (e : ℕ) → IsNext (levels_in plan focus) (hook_at hooks e) i.partial e → CanStart i e d → Waits index (key_of e (hook_at hooks e) (look_of i.binding)) handle

-- the date is at most one after the other
abbrev pub IsNear : ℤ → ℕ → Type 0
IsNear t d = t ≤ℤ (pos d +ℤ pos 1)

-- an entry may change what the window tells: its count isn't enough yet
abbrev pub IsWanting : InstanceState → ℕ → Window Sym → Type 0
IsWanting i k w = IsEnough w.body (progress_at i.progress k).count → ⊥

-- the handle waits for what may touch a window whose count isn't enough, that doesn't end by the date and begins by the one after it
abbrev pub IsArmed : Plan → List Hook → IndexState → Handle → ℕ → InstanceState → Type 0
IsArmed plan hooks index handle d i =
    (k : ℕ) → IfSome (slice_get (chronicle plan).windows k) (λ w. (from to : ℤ) → IsStretch i.partial w from to → BodyIsBound (look_of i.binding) w.body → IsWanting i k w → IsNear from d → pos d <ℤ to → Waits index (key_of (16 + k) (hook_at hooks k) (look_of i.binding)) handle)

-- what waited still waits
abbrev pub Grows : IndexState → IndexState → Type 0
Grows old new = (k : Key) (h : Handle) → Waits old k h → Waits new k h

-- the handle waits for each next event that can come by h and, where there is an earlier date, couldn't by that
abbrev pub IsLinkedAnew : Plan → Bool → List Hook → IndexState → Handle → Option ℕ → ℕ → InstanceState → Type 0
IsLinkedAnew plan focus hooks index handle since h i =
    (e : ℕ) → IsNext (levels_in plan focus) (hook_at hooks e) i.partial e → CanStart i e h → IfSome since (λ d. CanStart i e d → ⊥) → Waits index (key_of e (hook_at hooks e) (look_of i.binding)) handle

-- the handle waits for what may touch a window whose count isn't enough, that doesn't end by h and begins by the date after it and, where there is an earlier date, not by the one after that
abbrev pub IsArmedAnew : Plan → List Hook → IndexState → Handle → Option ℕ → ℕ → InstanceState → Type 0
IsArmedAnew plan hooks index handle since h i =
    (k : ℕ) → IfSome (slice_get (chronicle plan).windows k) (λ w. (from to : ℤ) → IsStretch i.partial w from to → BodyIsBound (look_of i.binding) w.body → IsWanting i k w → IsNear from h → IfSome since (λ d. IsNear from d → ⊥) → pos h <ℤ to → Waits index (key_of (16 + k) (hook_at hooks k) (look_of i.binding)) handle)
