-- Logs that differ only in the order of the events between two marks, and in where the delay is set.
use Rattle.std.specs.Prelude.{◌≡◌, ℕ, false, List, [], ◌∷◌, Option, Some, None, flat_map}
use Rattle.std.specs.List.{AllZip, list_any}
use Rattle.std.specs.List.Sorted.{IsPermutation}
use Rattle.crs_base.specs.Lines.{Line, bytes_of}
use Rattle.crs_log.specs.Items.{Item, Delay, Clock, Finish, Happens, Event}
use Rattle.crs_log.specs.ItemOf.{What, Empty, Is, Faulty, what_of}
use Rattle.crs_layers.specs.Runs.{State, Effect}
use Rattle.crs_outcomes.specs.ModelTexts.{IsAccepted}
use Rattle.crs_frames.specs.Frames.{Frame}
use Rattle.crs_session.specs.Texts.{IsTraceOf, IsTextOf, has_refused}

-- the item of a line, and none where it is blank or a comment
abbrev pub items_in : What → List Item
items_in Empty = []
items_in (Is item) = item ∷ []
items_in Faulty = []

abbrev pub items_of : List Line → List Item
items_of lines = flat_map (λ l. items_in (what_of (bytes_of l))) lines

-- a mark, and the delay in force at a clock's
pub data Ending : Type 0 where
  AtClock : ℕ → ℕ → Ending
  AtEnd : Ending

-- events, and the mark behind them: none stands behind the last events of a log
pub record Part : Type 0 where
  pub events : List Event
  pub ending : Option Ending

-- one more event before those of the first part
abbrev pub led_by : Event → List Part → List Part
led_by e [] = record { events = e ∷ []; ending = None } ∷ []
led_by e (p ∷ ps) = record { events = e ∷ p.events; ending = p.ending } ∷ ps

abbrev pub ended_by : Ending → List Part → List Part
ended_by ending ps = record { events = []; ending = Some ending } ∷ ps

-- the delay in force behind the item
abbrev pub delay_behind : ℕ → Item → ℕ
delay_behind d (Delay n) = n
delay_behind d (Clock t) = d
delay_behind d Finish = d
delay_behind d (Happens e) = d

abbrev pub with_item : ℕ → Item → List Part → List Part
with_item d (Happens e) ps = led_by e ps
with_item d (Delay n) ps = ps
with_item d (Clock t) ps = ended_by (AtClock d t) ps
with_item d Finish ps = ended_by AtEnd ps

-- the items parted behind each clock mark and each end, where d is the delay in force before them
abbrev pub parts_of : ℕ → List Item → List Part
parts_of d [] = []
parts_of d (item ∷ items) = with_item d item (parts_of (delay_behind d item) items)

-- the same events in another order, and the same mark behind them
pub record IsRearranged (p q : Part) : Type 0 where
  pub events : IsPermutation p.events q.events
  pub ending : p.ending ≡ q.ending

-- the same marks with the same delays in force at clocks, and the same events between each two of them, before the first and behind the last, in some order
abbrev pub AreRearranged : List Line → List Line → Type 0
AreRearranged xs ys = AllZip IsRearranged (parts_of 0 (items_of xs)) (parts_of 0 (items_of ys))

-- no line is refused, and each stratum has room for what it is given
abbrev pub NoneIsRefused : Frame → List Line → Type 0
NoneIsRefused f lines = (effects : List Effect) × (last : State) × IsTraceOf f lines effects last × (list_any has_refused effects ≡ false)

-- what is written for two logs without refused lines that are rearranged is the same, where entries aren't cited: their numbers tell the order
abbrev pub RearrangedLogsHaveOneText : Type 0
RearrangedLogsHaveOneText =
    (symbols entries : ℕ) (models : List ℕ) (f : Frame) (xs ys : List Line) (a b : List ℕ) → IsAccepted false symbols entries models f
    → NoneIsRefused f xs → NoneIsRefused f ys → AreRearranged xs ys → IsTextOf f xs a → IsTextOf f ys b → a ≡ b
