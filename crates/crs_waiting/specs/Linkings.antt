-- For what instances wait, one event and one window at a time.
use Rattle.std.specs.Prelude.{◌+◌, ◌<ℤ◌, ◌≤ℤ◌, ℕ, ℤ, pos, Bool, Option, IfSome, slice_get}
use Rattle.crs_agenda.specs.declared.timed.Handle.{Handle}
use Rattle.crs_index.specs.Indexes.{IndexState}
use Rattle.crs_instance.specs.Instances.{InstanceState}
use Rattle.crs_model.specs.Bindings.{look_of}
use Rattle.crs_model.specs.Plans.{chronicle}
use Rattle.crs_model.specs.Verdicts.{IsStretch, BodyIsBound}
use Rattle.crs_model.specs.declared.date_window.DateWindow.{DateWindow}
use Rattle.crs_model.specs.declared.plan.Plan.{Plan}
use Rattle.crs_waiting.specs.declared.hooks.Hook.{Hook}
use Rattle.crs_waiting.specs.Hooks.{Waits, key_of}
use Rattle.crs_focus.specs.PlanLevels.{levels_in}
use Rattle.crs_waiting.specs.Links.{CanStart, IsNext, IsNear, IsWanting}

-- the dates begin by h and, where there is an earlier date, not by that
abbrev pub StartsBetween : DateWindow → Option ℕ → ℕ → Type 0
StartsBetween w since h = IfSome w.least (λ m. m ≤ℤ pos h) × IfSome since (λ d. IfSome w.least (λ m. m ≤ℤ pos d) → ⊥)

-- the date is at most one after h and, where there is an earlier date, more than one after that
abbrev pub NearsBetween : ℤ → Option ℕ → ℕ → Type 0
NearsBetween from since h = IsNear from h × IfSome since (λ d. IsNear from d → ⊥)

-- the handle waits for this event, where it is next and can come by h, and couldn't by the earlier date
abbrev pub IsLinkedAt : Plan → Bool → Hook → IndexState → Handle → Option ℕ → ℕ → InstanceState → ℕ → Type 0
IsLinkedAt plan focus hook index handle since h i e =
    IsNext (levels_in plan focus) hook i.partial e → CanStart i e h → IfSome since (λ d. CanStart i e d → ⊥) → Waits index (key_of e hook (look_of i.binding)) handle

-- the handle waits for what may touch this window, where its count isn't enough, it doesn't end by h and begins by the date after it and, where there is an earlier date, not by the one after that
abbrev pub IsArmedAt : Plan → Hook → IndexState → Handle → Option ℕ → ℕ → InstanceState → ℕ → Type 0
IsArmedAt plan hook index handle since h i k =
    IfSome (slice_get (chronicle plan).windows k) (λ w. (from to : ℤ) → IsStretch i.partial w from to → BodyIsBound (look_of i.binding) w.body → IsWanting i k w → IsNear from h → IfSome since (λ d. IsNear from d → ⊥) → pos h <ℤ to → Waits index (key_of (16 + k) hook (look_of i.binding)) handle)
