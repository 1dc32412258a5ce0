-- What a mark answers of a chronicle.
use Rattle.std.specs.Prelude.{◌≡◌, ◌<◌, ◌≤◌, ◌^◌, ℕ, List, [], map, length, Bool, Option, Some, None}
use Rattle.std.specs.List.{AllByRecursion}
use Rattle.crs_base.specs.declared.symbols.Sym.{Sym}
use Rattle.crs_base.specs.Words.{IsIn, Ordered}
use Rattle.crs_base.specs.Entry.{Entry}
use Rattle.crs_model.specs.declared.recognition.Mark.{Mark}
use Rattle.crs_model.specs.declared.recognition.Recognition.{Recognition}
use Rattle.crs_model.specs.Models.{Chronicle}
use Rattle.crs_model.specs.Matching.{AreDistinct}
use Rattle.crs_model.specs.Images.{IsImage}
use Rattle.crs_model.specs.Steps.{GoesOn}
use Rattle.crs_model.specs.Order.{assignment_cmp}
use Rattle.crs_model.specs.Scopes.{Scope, ListsNew}
use Rattle.crs_model.specs.Open.{IsRecognisedWhole, before, whole}
use Rattle.crs_model.specs.Partial.{Partial}
use Rattle.crs_model.specs.Plans.{chronicle}
use Rattle.crs_model.specs.SeenModels.{assignment_of, given}
use Rattle.crs_history.specs.Histories.{HistoryState, IsFarBack, StandsFor as HistoryStandsFor}
use Rattle.crs_instance.specs.Instances.{InstanceState}
use Rattle.crs_store.specs.Joins.{Renews}
use Rattle.crs_store.specs.Stores.{StoreState, Stands, StandsAhead}
use Rattle.crs_living.specs.Parts.{parts}
use Rattle.crs_living.specs.Done.{IsDone}
use Rattle.crs_living.specs.Windows.{IsAble, IsPassed}
use Rattle.crs_base.specs.Sifted.{Sifts}
use Rattle.crs_model.specs.declared.plan.Plan.{Plan}
use Rattle.std.specs.Ordering.{is_lt}
use Rattle.std.specs.List.Sorted.{IsPermutation, IsSortedBy}
use Rattle.std.specs.declared.cmp.Ordering.{Ordering}

-- it has the number, the mark, an entry for each event of the chronicle, and a symbol for each variable
pub record IsRecognitionOf (c : Chronicle Sym) (n : ℕ) (m : Mark) (r : Recognition) : Type 0 where
  pub chronicle : r.chronicle ≡ n
  pub mark : r.mark ≡ m
  pub entries : length r.entries ≡ length c.events
  pub binding : r.binding ≡ map Some (given r.binding)
  pub values : length (given r.binding) ≡ length c.variables

-- the answer has exactly the new ones, ascending by the lists of their entries' keys, each with the chronicle's number, the mark, an entry for each event and a symbol for each variable
pub record IsAnswer (c : Chronicle Sym) (number : ℕ) (mark : Mark) (was now : Scope Sym) (answer : List Recognition) : Type 0 where
  pub listed : ListsNew c was now (map assignment_of answer)
  pub each : AllByRecursion (IsRecognitionOf c number mark) answer

-- after a mark whose horizon is h
pub record IsMarked (old new : StoreState) (mark : Mark) (was pool entries : List (Entry Sym)) (g h : ℕ) (answer : List Recognition) : Type 0 where
  pub stands : Stands new pool pool entries h h
  pub answers : IsAnswer (chronicle old.plan) old.number mark (record { pool = was; settled = before g entries; horizon = g })
      (record { pool = pool; settled = entries; horizon = h }) answer

-- where all is settled that comes before h, the history stands for it, it is fewer than 2^32 entries, dated before h and in the order of its dates, no two entries of the pool have one arrival number, and d isn't after h
abbrev pub IsAdvanced : StoreState → HistoryState → ℕ → Mark → StoreState → List Recognition → Type 0
IsAdvanced old history h mark new answer =
    (was pool settled : List (Entry Sym)) (d g : ℕ) → StandsAhead old was pool settled [] d g h →
    HistoryStandsFor settled history → IsFarBack old.plan.reach g history.floor → length settled < 2 ^ 32 → AreDistinct pool → d ≤ h →
    ((e : Entry Sym) → IsIn e settled → e.date < h) → Ordered (λ d e. d.date ≤ e.date) settled →
    IsMarked old new mark was pool settled g h answer

-- the recognition of a whole instance
pub record IsRecognitionFrom (n : ℕ) (m : Mark) (i : InstanceState) (r : Recognition) : Type 0 where
  pub chronicle : r.chronicle ≡ n
  pub mark : r.mark ≡ m
  pub entries : i.partial ≡ whole (assignment_of r)
  pub binding : r.binding ≡ i.binding

-- none where some event is unbound or some window isn't met
abbrev pub IsRecognitionIfDone : Plan → ℕ → ℕ → Mark → InstanceState → Option Recognition → Type 0
IsRecognitionIfDone plan h number mark i None = IsDone plan h i → ⊥
IsRecognitionIfDone plan h number mark i (Some r) = IsDone plan h i × IsRecognitionFrom number mark i r

-- the partial assignments that were recognised
abbrev pub wholes : List Recognition → List (Partial Sym)
wholes rs = map (λ r. whole (assignment_of r)) rs

-- it is the recognition of one of the instances, which is done
abbrev pub IsRecognitionOfOne : Plan → ℕ → ℕ → Mark → List InstanceState → Recognition → Type 0
IsRecognitionOfOne plan h number mark is r = (i : InstanceState) × IsIn i is × IsDone plan h i × IsRecognitionFrom number mark i r

abbrev pub answer_cmp : Recognition → Recognition → Ordering
answer_cmp r s = assignment_cmp (assignment_of r) (assignment_of s)

-- an instance that is done makes the partial assignment such that P holds of it, and no other does
abbrev pub TellsDone : Plan → ℕ → (Partial Sym → Type 0) → InstanceState → Type 0
TellsDone plan h P i = (IsDone plan h i → P i.partial) × (P i.partial → IsDone plan h i)

-- what is found among the instances is the recognitions of those that are done
pub record AreFound (plan : Plan) (h number : ℕ) (mark : Mark) (held : List InstanceState) (found : List Recognition) : Type 0 where
  pub each : AllByRecursion (IsRecognitionOfOne plan h number mark held) found
  pub image : (pool entries : List (Entry Sym)) → AllByRecursion (TellsDone plan h (IsRecognisedWhole (chronicle plan) pool entries h)) held → Ordered (λ a b. a ≡ b → ⊥) (parts held)
      → IsImage (GoesOn (IsRecognisedWhole (chronicle plan) pool entries h)) (parts held) (wholes found)

-- the same in the order of the lists of their entries' keys
pub record AreFoundInOrder (plan : Plan) (h number : ℕ) (mark : Mark) (held : List InstanceState) (answer : List Recognition) : Type 0 where
  pub found : List Recognition
  pub are : AreFound plan h number mark held found
  pub moved : IsPermutation found answer
  pub sorted : IsSortedBy (λ r s. is_lt (answer_cmp r s)) answer

-- the instances pass the dates up to h, and those that are able then stay; what is found among them is the answer, and the others are left
pub record MovesOn (plan : Plan) (focus : Bool) (history : HistoryState) (since h number : ℕ) (mark : Mark) (old new : List InstanceState) (answer : List Recognition) : Type 0 where
  pub able : List InstanceState
  pub passed : Renews (IsPassed plan history since h) (IsAble plan focus h) old able
  pub found : AreFoundInOrder plan h number mark able answer
  pub left : Sifts (λ i. IsDone plan h i → ⊥) able new
