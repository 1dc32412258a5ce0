-- What calls of layers take: from the state of a run that they stood for to the one behind a line.
use Rattle.std.specs.Prelude.{◌≡◌, ◌+◌, ℕ, Bool, false, List, Some, slice_get}
use Rattle.std.specs.List.{AllZip}
use Rattle.crs_base.specs.declared.symbols.Sym.{Sym}
use Rattle.crs_base.specs.Entry.{Entry}
use Rattle.crs_model.specs.declared.plan.Plan.{Plan}
use Rattle.crs_model.specs.declared.recognition.Mark.{Mark}
use Rattle.crs_model.specs.declared.recognition.Mark.TheVariants.{Clock as AtClock, Finish as AtEnd}
use Rattle.crs_model.specs.declared.recognition.Recognition.{Recognition}
use Rattle.crs_model.specs.Plans.{chronicle}
use Rattle.crs_model.specs.Renaming.{text_in, AreKnown, renamed_chronicle, renamed_entry, renamed_assignment, IsEntryOf}
use Rattle.crs_model.specs.SeenModels.{assignment_of, given}
use Rattle.crs_log.specs.Items.{Item, Delay, Clock, Finish, Happens, Event}
use Rattle.crs_log.specs.Run.{Accepted, Marked}
use Rattle.crs_log.specs.Trace.{Answer}
use Rattle.crs_store.specs.Answers.{IsRecognitionOf}
use Rattle.crs_engine.specs.Engines.{plans_of}
use Rattle.crs_layers.specs.Runs.{Setting, State, Effect, IsItemEffect}
use Rattle.crs_layers.specs.LayerStates.{LayersState, accepted_in}
use Rattle.crs_layers.specs.Standing.{HasText, StandFor}

-- they are of the same plans, and read levels, and may accept as much, as before; and they accepted n logged entries more
pub record GoOnBy (n : ℕ) (old new : LayersState) : Type 0 where
  pub same_plans : new.plans ≡ old.plans
  pub same_focus : new.focus ≡ old.focus
  pub same_limit : new.limit ≡ old.limit
  pub accepted : accepted_in new ≡ accepted_in old + n

-- from each state of a run that they stood for, a line that sets this delay takes them on
abbrev pub TakeDelay : LayersState → LayersState → ℕ → Type 0
TakeDelay old new d =
    (c : Setting) (s : State) (n : ℕ) (e : Effect) (t : State) → StandFor c s old → IsItemEffect c s n (Delay d) e t → StandFor c t new

-- the line is accepted as this entry, with numbers in place of the texts that are then known
pub record IsAcceptedAs (x : Entry Sym) (e : Effect) (t : State) : Type 0 where
  pub known : IsEntryOf (HasText t.log.texts) x
  pub accepted : e.outcome ≡ Accepted (renamed_entry (text_in t.log.texts) x)

-- from each state of a run that they stood for, an event that is accepted as this entry takes them on
abbrev pub TakeEntry : LayersState → LayersState → Entry Sym → Type 0
TakeEntry old new x =
    (c : Setting) (s : State) (n : ℕ) (event : Event) (e : Effect) (t : State) → StandFor c s old → IsItemEffect c s n (Happens event) e t → IsAcceptedAs x e t
    → StandFor c t new

-- The recognition tells of the answer, at this mark: it has the number of the answer's chronicle, and its entries and symbols are those of the
-- answer's assignment, by their texts.
pub record IsToldAs (plans : List Plan) (texts : List (List ℕ)) (mark : Mark) (r : Recognition) (a : Answer) : Type 0 where
  pub plan : Plan
  pub at : slice_get plans a.number ≡ Some plan
  pub recognition : IsRecognitionOf (chronicle plan) a.number mark r
  pub known : AreKnown texts (given r.binding)
  pub chronicle_is : a.chronicle ≡ renamed_chronicle (text_in texts) (chronicle plan)
  pub assignment_is : a.assignment ≡ renamed_assignment (text_in texts) (assignment_of r)

-- what a mark brings of a run, of which these recognitions tell the answers, one by one, and whether some stratum didn't accept all that it was given
pub record IsMarkedAs (texts : List (List ℕ)) (plans : List Plan) (mark : Mark) (list : List Recognition) (flood : Bool) (e : Effect) : Type 0 where
  pub outcome : e.outcome ≡ Marked mark
  pub told : AllZip (IsToldAs plans texts mark) list e.answers
  pub flooded : e.flood ≡ flood

-- the item of a log that is this mark
abbrev pub item_of : Mark → Item
item_of (AtClock t) = Clock t
item_of AtEnd = Finish

-- from each state of a run that they stood for, whose texts are these and that no end came before, a line that is this mark takes them on, and brings
-- what is answered
abbrev pub TakeMark : List (List ℕ) → Item → Mark → LayersState → LayersState → List Recognition → Bool → Type 0
TakeMark texts item mark old new list flood =
    (c : Setting) (s : State) (n : ℕ) → StandFor c s old → s.log.texts ≡ texts → s.log.ended ≡ false
    → (e : Effect) × (t : State) × IsItemEffect c s n item e t × IsMarkedAs texts (plans_of old.plans) mark list flood e × StandFor c t new
