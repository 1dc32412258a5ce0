-- The forks of instances that stand in places.
use Rattle.std.specs.Prelude.{◌≡◌, ◌⊎◌, ◌<◌, ◌≤◌, ℕ, pos, List, [], ◌∷◌, ◌++◌, length, Bool, true, Option, Some, None, slice_index_or}
use Rattle.std.specs.List.{AllByRecursion}
use Rattle.std.specs.Option.{option_to_list}
use Rattle.crs_base.specs.declared.symbols.Sym.{Sym}
use Rattle.crs_base.specs.Words.{IsIn}
use Rattle.crs_base.specs.Entry.{Entry}
use Rattle.crs_history.specs.Histories.{HistoryState}
use Rattle.crs_agenda.specs.declared.timed.Handle.{Handle}
use Rattle.crs_index.specs.declared.key.Key.{Key}
use Rattle.crs_index.specs.Indexes.{IndexState}
use Rattle.crs_instance.specs.Instances.{InstanceState, IsInside, window_at}
use Rattle.crs_model.specs.Bindings.{look_of}
use Rattle.crs_model.specs.Images.{IsImage}
use Rattle.crs_model.specs.Partial.{Partial}
use Rattle.crs_model.specs.Scans.{StartsAt, IsForkByLevel}
use Rattle.crs_model.specs.declared.plan.Plan.{Plan}
use Rattle.crs_waiting.specs.declared.hooks.Hook.{Hook}
use Rattle.crs_waiting.specs.declared.hooks.Symbols.{Symbols}
use Rattle.crs_focus.specs.PlanLevels.{levels_in}
use Rattle.crs_store.specs.Agreeing.{Agree}
use Rattle.crs_waiting.specs.Hooks.{IsPart, Waits, key_of, key_with, picked_arguments}
use Rattle.crs_waiting.specs.Links.{CanStart, IsNext}
use Rattle.crs_living.specs.Slots.{SlotsState, slot_at, handle_at, members}
use Rattle.crs_living.specs.Parts.{parts}
use Rattle.crs_store.specs.Sweeps.{IsReady}
use Rattle.crs_living.specs.Now.{IsNow}
use Rattle.crs_living.specs.Windows.{IsOpenBut, IsOver}

-- each instance has a date window for the event
abbrev pub HaveWindow : SlotsState → ℕ → Type 0
HaveWindow slots e = (p : ℕ) (i : InstanceState) → slot_at slots p ≡ Some i → e < length i.windows

-- the place is among the places, if an instance stands there that leaves the date and the symbols to the event
abbrev pub IsNoted : SlotsState → ℕ → ℕ → List (Option Sym) → List ℕ → ℕ → Type 0
IsNoted slots e d symbols places p = (i : InstanceState) → slot_at slots p ≡ Some i → IsInside (window_at i.windows e) (pos d) → Agree (look_of i.binding) (look_of symbols) → IsIn p places

-- those that wait under the key, and leave the date and the symbols to the event, are in the places
abbrev pub AreCandidates : SlotsState → IndexState → Key → ℕ → ℕ → List (Option Sym) → List ℕ → Type 0
AreCandidates slots index k e d symbols places = (p : ℕ) → Waits index k (handle_at slots p) → IsNoted slots e d symbols places p

-- so are those that wait for the event under a part of these symbols
abbrev pub AreCandidatesOf : SlotsState → IndexState → Symbols → ℕ → ℕ → List (Option Sym) → List ℕ → Type 0
AreCandidatesOf slots index all e d symbols places = (part : Symbols) → IsPart part all → AreCandidates slots index (key_with e part) e d symbols places

-- none waits for the event under a part of these symbols
abbrev pub NoneWait : IndexState → Symbols → ℕ → Type 0
NoneWait index all e = (part : Symbols) → IsPart part all → (h : Handle) → Waits index (key_with e part) h → ⊥

-- each place in which something stands is among the places
abbrev pub HasAll : SlotsState → List ℕ → Type 0
HasAll slots places = (p : ℕ) (i : InstanceState) → slot_at slots p ≡ Some i → IsIn p places

-- all are noted, or those that wait for the event under a part of the entry's symbols, where such are skipped as await one that comes before it, or there is none
abbrev pub AreSought : SlotsState → IndexState → Hook → Bool → List Sym → ℕ → ℕ → List (Option Sym) → List ℕ → Type 0
AreSought slots index hook skips args e d symbols places =
    HasAll slots places ⊎ (AreCandidatesOf slots index (picked_arguments hook args) e d symbols places × ((skips ≡ true) ⊎ (hook.before ≡ None)))

-- those that stand in a place and waited still wait
abbrev pub KeepsStanding : SlotsState → IndexState → IndexState → Type 0
KeepsStanding slots old new = (k : Key) (p : ℕ) (i : InstanceState) → slot_at slots p ≡ Some i → Waits old k (handle_at slots p) → Waits new k (handle_at slots p)

-- each instance for which the event of this number is next, where that can come by the date, waits for it
abbrev pub AreLinkedAt : Plan → Bool → Hook → SlotsState → IndexState → ℕ → ℕ → Type 0
AreLinkedAt plan focus h slots index e d =
    (p : ℕ) (i : InstanceState) → slot_at slots p ≡ Some i → IsNext (levels_in plan focus) h i.partial e → CanStart i e d → Waits index (key_of e h (look_of i.binding)) (handle_at slots p)

-- what stands in the places
abbrev pub standing : {A : Type 0} → List (Option A) → List ℕ → List A
standing xs [] = []
standing xs (p ∷ ps) = option_to_list (slice_index_or xs p None) ++ standing xs ps

-- what comes of the chosen ones but for what is left out, where all that are held are over what can be read, and ready; it is judged at a date
abbrev pub ComeOf : ((Partial Sym → Type 0) → Partial Sym → Partial Sym → Type 0) → Plan → Bool → (Partial Sym → Type 0) → HistoryState → Entry Sym → ℕ → ℕ → List InstanceState → List InstanceState → List InstanceState → Type 0
ComeOf From plan focus Out history x since until held chosen out =
    (pool entries : List (Entry Sym)) → IsNow plan focus history x since pool entries → since ≤ until → AllByRecursion (IsOver plan focus pool entries since) held → IsReady x (parts held)
    → IsImage (From (IsOpenBut plan focus Out pool entries until)) (parts chosen) (parts out) × AllByRecursion (IsOver plan focus pool entries until) out

-- what has x at the event e
abbrev pub IsForkWith : (ℕ → ℕ) → Entry Sym → ℕ → (Partial Sym → Type 0) → Partial Sym → Partial Sym → Type 0
IsForkWith level x e Fine a b = StartsAt level Fine x a e b

-- what has x at one of the events below n
abbrev pub IsForkBelow : (ℕ → ℕ) → Entry Sym → ℕ → (Partial Sym → Type 0) → Partial Sym → Partial Sym → Type 0
IsForkBelow level x n Fine a b = (e : ℕ) × (e < n) × StartsAt level Fine x a e b

-- the forks at the event of what stands in the places
abbrev pub AreForksOfPlaces : Plan → Bool → (Partial Sym → Type 0) → HistoryState → Entry Sym → ℕ → ℕ → SlotsState → ℕ → List ℕ → List InstanceState → Type 0
AreForksOfPlaces plan focus Out history x since until slots e places out =
    ComeOf (IsForkWith (levels_in plan focus) x e) plan focus Out history x since until (members slots.slots) (standing slots.slots places) out

-- the forks at the event of all
abbrev pub AreForksOfEvent : Plan → Bool → (Partial Sym → Type 0) → HistoryState → Entry Sym → ℕ → ℕ → SlotsState → ℕ → List InstanceState → Type 0
AreForksOfEvent plan focus Out history x since until slots e out =
    ComeOf (IsForkWith (levels_in plan focus) x e) plan focus Out history x since until (members slots.slots) (members slots.slots) out

-- the forks of all
abbrev pub AreForksOfAll : Plan → Bool → (Partial Sym → Type 0) → HistoryState → Entry Sym → ℕ → ℕ → List InstanceState → List InstanceState → Type 0
AreForksOfAll plan focus Out history x since until held out = ComeOf (λ Fine. IsForkByLevel (levels_in plan focus) Fine x) plan focus Out history x since until held held out

-- what has x at the event e, which the instance awaits, but for what is left out
abbrev pub AreForksBut : Plan → Bool → (Partial Sym → Type 0) → HistoryState → Entry Sym → ℕ → ℕ → InstanceState → ℕ → List InstanceState → Type 0
AreForksBut plan focus Out history x since until i e out =
    (pool entries : List (Entry Sym)) → IsNow plan focus history x since pool entries → since ≤ until → IsOver plan focus pool entries since i
    → IsImage (StartsAt (levels_in plan focus) (IsOpenBut plan focus Out pool entries until) x i.partial) (e ∷ []) (parts out) × AllByRecursion (IsOver plan focus pool entries until) out
