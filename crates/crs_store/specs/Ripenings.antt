-- The instances that are done leave their places.
use Rattle.std.specs.Prelude.{◌≡◌, ◌⊎◌, ℕ, List, [], ◌∷◌, ◌++◌, length, Option, Some, None}
use Rattle.crs_instance.specs.Instances.{InstanceState}
use Rattle.crs_model.specs.declared.plan.Plan.{Plan}
use Rattle.crs_model.specs.declared.recognition.Mark.{Mark}
use Rattle.crs_model.specs.declared.recognition.Recognition.{Recognition}
use Rattle.crs_store.specs.Answers.{IsRecognitionFrom, IsRecognitionIfDone}
use Rattle.crs_living.specs.Slots.{SlotsState, slot_at, handle_at, Removes}
use Rattle.crs_living.specs.Done.{IsDone}

-- what stood there went exactly where it is done, and is the same where it stays
abbrev pub LeftAt : Plan → ℕ → Option InstanceState → Option InstanceState → Type 0
LeftAt plan h None None = Unit {0}
LeftAt plan h None (Some j) = ⊥
LeftAt plan h (Some i) None = IsDone plan h i
LeftAt plan h (Some i) (Some j) = (j ≡ i) × (IsDone plan h i → ⊥)

-- each instance that is done went, and the others are where they were
pub record AreLeft (plan : Plan) (h : ℕ) (old new : SlotsState) : Type 0 where
  pub each : (p : ℕ) → LeftAt plan h (slot_at old p) (slot_at new p)
  pub handles : (p : ℕ) (j : InstanceState) → slot_at new p ≡ Some j → handle_at new p ≡ handle_at old p
  pub places : length new.slots ≡ length old.slots

-- the recognition of what stands there; none where nothing does that is done
abbrev pub IsRecognitionAt : Plan → ℕ → ℕ → Mark → Option InstanceState → Option Recognition → Type 0
IsRecognitionAt plan h number mark None None = Unit {0}
IsRecognitionAt plan h number mark None (Some r) = ⊥
IsRecognitionAt plan h number mark (Some i) o = IsRecognitionIfDone plan h number mark i o

-- an instance that is done went from there, and its recognition is the last of what is found
pub record Takes (plan : Plan) (h number : ℕ) (mark : Mark) (old new : SlotsState) (p : ℕ) (found more : List Recognition) : Type 0 where
  pub from : InstanceState
  pub one : Recognition
  pub here : slot_at old p ≡ Some from
  pub done : IsDone plan h from
  pub is : IsRecognitionFrom number mark from one
  pub added : more ≡ found ++ one ∷ []
  pub removed : Removes old new p

-- nothing that is done stands there, and all stays
pub record Stays (plan : Plan) (h : ℕ) (old new : SlotsState) (p : ℕ) (found more : List Recognition) : Type 0 where
  pub undone : (i : InstanceState) → slot_at old p ≡ Some i → IsDone plan h i → ⊥
  pub slots : new ≡ old
  pub same : more ≡ found

abbrev pub TakesAt : Plan → ℕ → ℕ → Mark → SlotsState → SlotsState → ℕ → List Recognition → List Recognition → Type 0
TakesAt plan h number mark old new p found more = Takes plan h number mark old new p found more ⊎ Stays plan h old new p found more
