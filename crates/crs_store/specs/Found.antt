-- What was done at its birth, and is kept as a recognition.
use Rattle.std.specs.Prelude.{◌≡◌, ℕ, List, [], ◌∷◌, ◌++◌, map}
use Rattle.std.specs.List.{range_with_len}
use Rattle.crs_base.specs.declared.symbols.Sym.{Sym}
use Rattle.crs_stn.specs.DateWindow.{latest, soonest}
use Rattle.crs_stn.specs.Table.{most_of}
use Rattle.crs_model.specs.declared.plan.Plan.{Plan}
use Rattle.crs_model.specs.declared.date_window.DateWindow.{DateWindow}
use Rattle.crs_model.specs.declared.recognition.Mark.{Mark}
use Rattle.crs_model.specs.declared.recognition.Recognition.{Recognition}
use Rattle.crs_model.specs.Open.{whole}
use Rattle.crs_model.specs.Partial.{Partial, dates_of}
use Rattle.crs_model.specs.SeenModels.{assignment_of}
use Rattle.crs_instance.specs.Instances.{InstanceState}
use Rattle.crs_store.specs.Answers.{IsRecognitionFrom}
use Rattle.crs_living.specs.Slots.{SlotsState, members}

-- the soonest and the latest date that the bounds and the bound events' dates leave to a point
abbrev pub dates_left : Plan → Partial Sym → ℕ → DateWindow
dates_left plan a p = record { least = soonest plan.network.points (most_of plan.network) (dates_of a) p; most = latest plan.network.points (most_of plan.network) (dates_of a) p }

-- the instance that a recognition stands for, where the chronicle has no windows
unfoldable pub found_state : Plan → Recognition → InstanceState
found_state plan r = record { partial = whole (assignment_of r); binding = r.binding; windows = map (dates_left plan (whole (assignment_of r))) (range_with_len 0 plan.network.points); progress = [] }

-- those that the recognitions stand for
abbrev pub founds : Plan → List Recognition → List InstanceState
founds plan rs = map (found_state plan) rs

-- what is held: the instances in places, and those that the recognitions stand for
abbrev pub held_in : Plan → SlotsState → List Recognition → List InstanceState
held_in plan slots rs = members slots.slots ++ founds plan rs

-- the recognition of a whole instance comes to the others
pub record FindsOne (i : InstanceState) (old new : List Recognition) : Type 0 where
  pub one : Recognition
  pub is : IsRecognitionFrom one.chronicle one.mark i one
  pub added : new ≡ old ++ one ∷ []

-- the same with this number and this mark
abbrev pub numbered : ℕ → Mark → Recognition → Recognition
numbered n m r = record r { chronicle = n; mark = m }
