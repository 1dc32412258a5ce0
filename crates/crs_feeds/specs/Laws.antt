-- What two merged runs of the same logs have in common.
use Rattle.std.specs.Prelude.{◌≡◌, ℕ, ◌+◌, ◌==◌, Bool, true, false, cond, List, [], ◌∷◌, ◌++◌, length, map}
use Rattle.std.specs.List.{list_any}
use Rattle.crs_base.specs.Entry.{Entry}
use Rattle.crs_model.specs.declared.recognition.Mark.{Mark}
use Rattle.crs_model.specs.Models.{Chronicle}
use Rattle.crs_model.specs.Matching.{Assignment}
use Rattle.crs_model.specs.Open.{IsRecognised}
use Rattle.crs_model.specs.Order.{Lists, assignment_cmp}
use Rattle.crs_log.specs.Reading.{Given}
use Rattle.crs_log.specs.Run.{Setting, Outcome, Passed, Refused, Accepted, Marked, Fault, TooLong, Form, Order, Back, Late, Arity, Value, Full, Values}
use Rattle.crs_log.specs.Recognitions.{View, scope_in}
use Rattle.crs_report.specs.OutputLines.{recognition_line}
use Rattle.crs_feeds.specs.Merged.{Merged, Pair, at_start, after_pairs, outcomes, common, settled, view_of}

-- the lines of one feed
abbrev pub lines_from : ℕ → List Pair → List Given
lines_from n [] = []
lines_from n (p ∷ ps) = cond (p.feed == n) (p.line ∷ lines_from n ps) (lines_from n ps)

-- the lines are the first ones of the log
abbrev pub AreFirst : List Given → List Given → Type 0
AreFirst lines log = (rest : List Given) × (log ≡ lines ++ rest)

-- each feed gives the first lines of its log, in their order; the first of these logs is that of feed n
abbrev pub ArePairsOf : ℕ → List (List Given) → List Pair → Type 0
ArePairsOf n [] ps = Unit {0}
ArePairsOf n (log ∷ logs) ps = AreFirst (lines_from n ps) log × ArePairsOf (n + 1) logs ps

-- for want of room, by the limit of entries or of symbols
abbrev pub wants_room : Fault → Bool
wants_room TooLong = false
wants_room Form = false
wants_room Order = false
wants_room (Back t last) = false
wants_room (Late date horizon) = false
wants_room Arity = false
wants_room Value = false
wants_room (Full limit) = true
wants_room (Values limit) = true

abbrev pub is_out_of_room : Outcome → Bool
is_out_of_room Passed = false
is_out_of_room (Refused fault) = wants_room fault
is_out_of_room (Accepted entry) = false
is_out_of_room (Marked mark) = false

-- the merged run behind these pairs
abbrev pub run_of : Setting → List (List ℕ) → List (List Given) → List Pair → Merged
run_of c texts logs ps = after_pairs c (at_start texts (length logs)) ps

-- a merged run of the logs, as far as it went when its common horizon was h, without a line that was refused for want of room
pub record Reaches (c : Setting) (texts : List (List ℕ)) (logs : List (List Given)) (h : ℕ) (ps : List Pair) : Type 0 where
  pub pairs : ArePairsOf 0 logs ps
  pub room : list_any is_out_of_room (outcomes c (at_start texts (length logs)) ps) ≡ false
  pub horizon : common (run_of c texts logs ps).feeds ≡ h

abbrev pub without_arrival : Entry (List ℕ) → Entry (List ℕ)
without_arrival e = record e { arrival = 0 }

-- all that is recognised of a chronicle, in key order
abbrev pub AreRecognised : Chronicle (List ℕ) → View → List (Assignment (List ℕ)) → Type 0
AreRecognised x v found = Lists assignment_cmp (IsRecognised x (scope_in x v).pool v.settled v.horizon) found

-- the lines of what is recognised of a chronicle, with whatever mark, are the same ones
abbrev pub HaveOneList : Chronicle (List ℕ) → View → View → Type 0
HaveOneList x v w =
    (mark : Mark) (found other : List (Assignment (List ℕ))) → AreRecognised x v found → AreRecognised x w other
    → map (recognition_line false x mark) found ≡ map (recognition_line false x mark) other

-- at a common horizon that both reach, the settled entries are the same apart from arrival numbers, and so are the lines of all that is recognised of a chronicle that isn't prompt
abbrev pub MergedRunsAgree : Type 0
MergedRunsAgree =
    (c : Setting) (texts : List (List ℕ)) (logs : List (List Given)) (h : ℕ) (ps qs : List Pair)
    → Reaches c texts logs h ps → Reaches c texts logs h qs
    → (map without_arrival (settled (run_of c texts logs ps)) ≡ map without_arrival (settled (run_of c texts logs qs)))
    × ((x : Chronicle (List ℕ)) → x.prompt ≡ false → HaveOneList x (view_of (run_of c texts logs ps)) (view_of (run_of c texts logs qs)))
