-- What is known of each instance that stands in a place.
use Rattle.std.specs.Prelude.{◌≡◌, ◌≢◌, ◌⊎◌, ◌≤◌, ℕ, List, Bool, Some, None}
use Rattle.crs_agenda.specs.declared.timed.Handle.{Handle}
use Rattle.crs_agenda.specs.declared.timed.Timed.{Timed}
use Rattle.crs_agenda.specs.Schedule.{Schedule}
use Rattle.crs_base.specs.Words.{IsIn}
use Rattle.crs_index.specs.Indexes.{IndexState}
use Rattle.crs_instance.specs.Instances.{InstanceState, IsOf}
use Rattle.crs_model.specs.declared.plan.Plan.{Plan}
use Rattle.crs_store.specs.declared.holding.Holding.{Holding}
use Rattle.crs_waiting.specs.declared.hooks.Hook.{Hook}
use Rattle.crs_waiting.specs.declared.hooks.Hooks.{Hooks}
use Rattle.crs_waiting.specs.Dues.{AreDue, AreKept}
use Rattle.crs_waiting.specs.Links.{linked_by, Grows, IsLinked, IsLinkedAnew, IsArmed, IsArmedAnew}
use Rattle.crs_living.specs.Slots.{SlotsState, slot_at, handle_at}
use Rattle.crs_living.specs.Done.{IsDone}
use Rattle.crs_living.specs.Windows.{IsAble}

-- Judged at d, it is able to be recognised. Its handle waits for each awaited event that can come by then, of a prompt chronicle for each awaited event, and for what may touch a window that begins by the date after; it stands in the calendar at each date at which it has to be judged anew. Where it is done, its place is among the ripe ones.
pub record IsKnown (plan : Plan) (focus : Bool) (events windows : List Hook) (index : IndexState) (pairs : List Timed) (ripe : List ℕ) (handle : Handle) (d : ℕ) (i : InstanceState) : Type 0 where
  pub of : IsOf plan i
  pub able : IsAble plan focus d i
  pub linked : IsLinked plan focus events index handle (linked_by plan d) i
  pub armed : IsArmed plan windows index handle d i
  pub due : AreDue plan focus i handle d pairs
  pub done : IsDone plan d i → IsIn handle.place ripe

-- so of all, and the calendar doesn't stand after d
pub record IsTidy (plan : Plan) (focus : Bool) (events windows : List Hook) (slots : SlotsState) (index : IndexState) (dues : Schedule) (ripe : List ℕ) (d : ℕ) : Type 0 where
  pub known : (p : ℕ) (i : InstanceState) → slot_at slots p ≡ Some i → IsKnown plan focus events windows index dues.pairs ripe (handle_at slots p) d i
  pub stood : dues.date ≤ d

-- so of a holding
abbrev pub IsTidyHolding : Plan → Bool → Hooks → Holding → ℕ → Type 0
IsTidyHolding plan focus hooks holding d = IsTidy plan focus hooks.events.items hooks.windows.items holding.slots holding.waiting holding.dues holding.ripe.items d

-- what stands in the place is found again from h on, and all else stays
pub record Registers (plan : Plan) (focus : Bool) (hooks : Hooks) (h place : ℕ) (old new : Holding) : Type 0 where
  pub slots : new.slots ≡ old.slots
  pub ripe : new.ripe.items ≡ old.ripe.items
  pub grown : Grows old.waiting new.waiting
  pub kept : AreKept old.dues.pairs new.dues.pairs
  pub stood : new.dues.date ≡ old.dues.date
  pub linked : (i : InstanceState) → slot_at old.slots place ≡ Some i → IsLinkedAnew plan focus hooks.events.items new.waiting (handle_at old.slots place) None (linked_by plan h) i
  pub armed : (i : InstanceState) → slot_at old.slots place ≡ Some i → IsArmedAnew plan hooks.windows.items new.waiting (handle_at old.slots place) None h i
  pub due : (i : InstanceState) → slot_at old.slots place ≡ Some i → AreDue plan focus i (handle_at old.slots place) h new.dues.pairs

-- its handle is the one it had, and waits for each awaited event that can come by then and couldn't by `since`, and for what may touch a window that nears by h and didn't by then
abbrev pub IsFoundAnew : Plan → Bool → Hooks → SlotsState → Holding → ℕ → ℕ → ℕ → InstanceState → Type 0
IsFoundAnew plan focus hooks was new since h p i =
    (handle_at new.slots p ≡ handle_at was p) × IsLinkedAnew plan focus hooks.events.items new.waiting (handle_at new.slots p) (Some (linked_by plan since)) (linked_by plan h) i × IsArmedAnew plan hooks.windows.items new.waiting (handle_at new.slots p) (Some since) h i

-- its handle waits for all that it has to, and stands at each due date
abbrev pub IsFoundWhole : Plan → Bool → Hooks → Holding → ℕ → ℕ → InstanceState → Type 0
IsFoundWhole plan focus hooks new h p i =
    IsLinkedAnew plan focus hooks.events.items new.waiting (handle_at new.slots p) None (linked_by plan h) i × IsArmedAnew plan hooks.windows.items new.waiting (handle_at new.slots p) None h i × AreDue plan focus i (handle_at new.slots p) h new.dues.pairs

-- what stands in the place is done and named, or it isn't done and is found in one of these ways
abbrev pub IsFoundAgain : Plan → Bool → Hooks → SlotsState → Holding → ℕ → ℕ → ℕ → Type 0
IsFoundAgain plan focus hooks was new since h p =
    (i : InstanceState) → slot_at was p ≡ Some i → (IsDone plan h i × IsIn p new.ripe.items) ⊎ ((IsDone plan h i → ⊥) × (IsFoundAnew plan focus hooks was new since h p i ⊎ IsFoundWhole plan focus hooks new h p i))

-- all instances stay, and what waited, was due or was named still is
pub record Keeps (old new : Holding) : Type 0 where
  pub stands : new.slots.slots ≡ old.slots.slots
  pub grown : Grows old.waiting new.waiting
  pub due : AreKept old.dues.pairs new.dues.pairs
  pub stood : new.dues.date ≡ old.dues.date
  pub ripe : (p : ℕ) → IsIn p old.ripe.items → IsIn p new.ripe.items

-- what stands in the place is found again, and the other handles stay
pub record SettlesPlace (plan : Plan) (focus : Bool) (hooks : Hooks) (place since h : ℕ) (old new : Holding) : Type 0 where
  pub keeps : Keeps old new
  pub others : (p : ℕ) → p ≢ place → handle_at new.slots p ≡ handle_at old.slots p
  pub found : IsFoundAgain plan focus hooks old.slots new since h place

-- so for each of the places
pub record SettlesPlaces (plan : Plan) (focus : Bool) (hooks : Hooks) (places : List ℕ) (since h : ℕ) (old new : Holding) : Type 0 where
  pub keeps : Keeps old new
  pub others : (p : ℕ) → (IsIn p places → ⊥) → handle_at new.slots p ≡ handle_at old.slots p
  pub found : (p : ℕ) → IsIn p places → IsFoundAgain plan focus hooks old.slots new since h p
