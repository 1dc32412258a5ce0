-- Who waits for an entry, of the instances in places.
use Rattle.std.specs.Prelude.{◌≡◌, ◌⊎◌, ◌+◌, ◌<◌, ℕ, List, Bool, true, Some, IfSome, slice_get}
use Rattle.crs_agenda.specs.Freshness.{is_fresh}
use Rattle.crs_base.specs.declared.symbols.Sym.{Sym}
use Rattle.crs_base.specs.Entry.{Entry}
use Rattle.crs_base.specs.Words.{IsIn}
use Rattle.crs_index.specs.Indexes.{IndexState}
use Rattle.crs_instance.specs.Instances.{InstanceState}
use Rattle.crs_living.specs.Slots.{SlotsState, slot_at, handle_at}
use Rattle.crs_model.specs.Plans.{chronicle}
use Rattle.crs_model.specs.declared.plan.Plan.{Plan}
use Rattle.crs_waiting.specs.declared.hooks.Hook.{Hook}
use Rattle.crs_waiting.specs.Hooks.{Waits, key_with, picked_arguments}
use Rattle.crs_waiting.specs.Links.{IsLinked, hook_at}
use Rattle.crs_waiting.specs.Refusing.{Refuses}

-- each instance in a place waits for each next event that can come by the date
abbrev pub AreLinked : Plan → Bool → List Hook → SlotsState → IndexState → ℕ → Type 0
AreLinked plan focus hooks slots index d = (p : ℕ) (i : InstanceState) → slot_at slots p ≡ Some i → IsLinked plan focus hooks index (handle_at slots p) d i

-- the places of all that wait under the entry's symbols for such an entry, of the hook's name, are among these
abbrev pub HasWaiting : SlotsState → IndexState → ℕ → Hook → Entry Sym → List ℕ → Type 0
HasWaiting slots index c hook x places = (p : ℕ) → is_fresh slots.serials (handle_at slots p) ≡ true → hook.name ≡ x.name → Waits index (key_with c (picked_arguments hook x.args)) (handle_at slots p) → IsIn p places

-- so for the window of this number, unless it refuses the entry whatever is bound
abbrev pub HasTouchedAt : Plan → List Hook → SlotsState → IndexState → Entry Sym → ℕ → List ℕ → Type 0
HasTouchedAt plan hooks slots index x k places = IfSome (slice_get (chronicle plan).windows k) (λ w. Refuses w.body x ⊎ HasWaiting slots index (16 + k) (hook_at hooks k) x places)

-- so for the first n windows
abbrev pub HasTouched : Plan → List Hook → SlotsState → IndexState → Entry Sym → ℕ → List ℕ → Type 0
HasTouched plan hooks slots index x n places = (k : ℕ) → k < n → HasTouchedAt plan hooks slots index x k places
