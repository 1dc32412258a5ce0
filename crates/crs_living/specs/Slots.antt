-- Instances in places.
use Rattle.std.specs.Prelude.{◌≡◌, ◌≢◌, ◌<◌, ℕ, List, [], ◌∷◌, ◌++◌, length, Bool, true, false, Option, Some, None, is_some, slice_index_or}
use Rattle.crs_agenda.specs.declared.timed.Handle.{Handle}
use Rattle.crs_instance.specs.Instances.{InstanceState}

-- what stands in each place, and its serial number
pub record SlotsState : Type 0 where
  pub slots : List (Option InstanceState)
  pub serials : List ℕ

-- those that are there
abbrev pub members : {A : Type 0} → List (Option A) → List A
members [] = []
members (None ∷ xs) = members xs
members (Some x ∷ xs) = x ∷ members xs

-- what stands in the place, if something does
abbrev pub slot_at : SlotsState → ℕ → Option InstanceState
slot_at s p = slice_index_or s.slots p None

-- the handle of what stands in the place
abbrev pub handle_at : SlotsState → ℕ → Handle
handle_at s p = record { place = p; serial = slice_index_or s.serials p 0 }

-- there are as many serial numbers as places, and this many instances
pub record IsSlots (s : SlotsState) (count : ℕ) : Type 0 where
  pub serials : length s.serials ≡ length s.slots
  pub counted : count ≡ length (members s.slots)

-- an empty place, which may be new
pub record Opens (old new : SlotsState) (p : ℕ) : Type 0 where
  pub within : p < length new.slots
  pub empty : slot_at new p ≡ None
  pub same : (q : ℕ) → slot_at new q ≡ slot_at old q
  pub handles : (q : ℕ) → q < length old.slots → handle_at new q ≡ handle_at old q
  pub members : members new.slots ≡ members old.slots

-- a place that was empty has the instance, and all else stays
pub record Puts (old new : SlotsState) (p : ℕ) (i : InstanceState) : Type 0 where
  pub empty : slot_at old p ≡ None
  pub here : slot_at new p ≡ Some i
  pub others : (q : ℕ) → q ≢ p → slot_at new q ≡ slot_at old q
  pub handles : (q : ℕ) (j : InstanceState) → slot_at old q ≡ Some j → handle_at new q ≡ handle_at old q
  pub front : List InstanceState
  pub back : List InstanceState
  pub was : members old.slots ≡ front ++ back
  pub is : members new.slots ≡ front ++ i ∷ back

-- what an instance became stays where it is able, and goes else
abbrev pub Becomes : (InstanceState → InstanceState → Type 0) → (InstanceState → Type 0) → Option InstanceState → Option InstanceState → Type 0
Becomes R Able None None = Unit {0}
Becomes R Able None (Some j) = ⊥
Becomes R Able (Some i) None = (j : InstanceState) × R i j × (Able j → ⊥)
Becomes R Able (Some i) (Some j) = R i j × Able j

-- what stood there went exactly where this says so
abbrev pub WentOrStayed : Option InstanceState → Option InstanceState → Bool → Type 0
WentOrStayed old new true = (is_some old ≡ true) × (new ≡ None)
WentOrStayed old new false = is_some old ≡ is_some new

-- the place is empty, with another handle where something stood there, and all else stays
pub record Removes (old new : SlotsState) (p : ℕ) : Type 0 where
  pub gone : slot_at new p ≡ None
  pub raised : (i : InstanceState) → slot_at old p ≡ Some i → handle_at new p ≢ handle_at old p
  pub others : (q : ℕ) → q ≢ p → slot_at new q ≡ slot_at old q
  pub handles : (q : ℕ) (j : InstanceState) → slot_at new q ≡ Some j → handle_at new q ≡ handle_at old q
  pub places : length new.slots ≡ length old.slots

-- the place may have another handle, and all else stays
pub record Renumbers (old new : SlotsState) (p : ℕ) : Type 0 where
  pub stands : new.slots ≡ old.slots
  pub others : (q : ℕ) → q ≢ p → handle_at new q ≡ handle_at old q

-- what stood in the place became what stands there now, or went and left it with another handle, and all else stays
pub record Changes (R : InstanceState → InstanceState → Type 0) (Able : InstanceState → Type 0) (old new : SlotsState) (p : ℕ) : Type 0 where
  pub here : Becomes R Able (slot_at old p) (slot_at new p)
  pub raised : (i : InstanceState) → slot_at old p ≡ Some i → slot_at new p ≡ None → handle_at new p ≢ handle_at old p
  pub others : (q : ℕ) → q ≢ p → slot_at new q ≡ slot_at old q
  pub handles : (q : ℕ) (j : InstanceState) → slot_at new q ≡ Some j → handle_at new q ≡ handle_at old q
  pub places : length new.slots ≡ length old.slots
