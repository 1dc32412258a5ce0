-- Instances at some places, as they are followed or passed.
use Rattle.std.specs.Prelude.{◌≡◌, ℕ, List, length, Some}
use Rattle.crs_base.specs.Words.{IsIn}
use Rattle.crs_instance.specs.Instances.{InstanceState}
use Rattle.crs_living.specs.Slots.{SlotsState, slot_at, handle_at, Becomes}

-- what stood in these places became what stands there now, and all else stays
pub record Walks (R : InstanceState → InstanceState → Type 0) (Able : InstanceState → Type 0) (keys : List ℕ) (old new : SlotsState) : Type 0 where
  pub at : (p : ℕ) → IsIn p keys → Becomes R Able (slot_at old p) (slot_at new p)
  pub others : (p : ℕ) → (IsIn p keys → ⊥) → slot_at new p ≡ slot_at old p
  pub handles : (p : ℕ) (j : InstanceState) → slot_at new p ≡ Some j → handle_at new p ≡ handle_at old p
  pub places : length new.slots ≡ length old.slots
