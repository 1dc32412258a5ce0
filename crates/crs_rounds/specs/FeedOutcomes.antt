-- What a call over several logs does to a desk that tells its contents.
use Rattle.std.specs.Prelude.{◌≡◌, ◌⊎◌, ℕ, ◌+◌, ◌<◌, ◌≤◌, ◌^◌, ◌==◌, true, false, List, [], ◌∷◌, ◌++◌, length, map, take, filter, get_or}
use Rattle.std.specs.List.{AllByRecursion}
use Rattle.crs_desk.specs.Desk.{Told, Stream}
use Rattle.crs_desk.specs.declared.turn.Turn.{Turn}
use Rattle.crs_model.specs.declared.models.ModelWord.{ModelWord}
use Rattle.crs_outcomes.specs.declared.status.Status.{Status}
use Rattle.crs_outcomes.specs.declared.status.Status.TheVariants.{Done, Refusals, Words, Rejected, ReadFault, WriteFault, Memory, TooLong}
use Rattle.crs_rounds.specs.FeedRounds.{pairs_of, lines_in}
use Rattle.crs_outcomes.specs.Inputs.{bytes_of, after, Opened, IsRead}
use Rattle.crs_outcomes.specs.Loads.{AreTaken, IsModelLine}
use Rattle.crs_outcomes.specs.Writing.{Appends, AppendsFront}
use Rattle.crs_outcomes.specs.ModelTexts.{IsAcceptedAlone, IsFaulty}
use Rattle.crs_rounds.specs.PairTexts.{IsFeedsText, IsTextBefore, IsTextAtRead, refuses_some}
use Rattle.crs_outcomes.specs.Most.{Most}
use Rattle.crs_frames.specs.Frames.{Frame}

-- the turns of one input
abbrev pub turns_of : ℕ → List Turn → List Turn
turns_of input turns = filter (λ t. t.input == input) turns

-- what is left of these logs, of each of which so many bytes were taken
abbrev pub left_of : List (List ℕ) → List ℕ → List Stream
left_of [] ts = []
left_of (log ∷ logs) [] = after log 0 ∷ left_of logs []
left_of (log ∷ logs) (t ∷ ts) = after log t ∷ left_of logs ts

-- of each log so many bytes were taken, in rising turns with the room that is left to the limit, and none where not all were opened; the
-- input of the first has the number `base`
pub record AreRead (base limit : ℕ) (unopened : Type 0) (logs : List (List ℕ)) (ts : List ℕ) (turns : List Turn) : Type 0 where
  pub count : length ts ≡ length logs
  pub unread : unopened → turns ≡ []
  pub each : (n : ℕ) → n < length logs → IsRead (base + n) limit unopened (get_or logs n []) (get_or ts n 0) (turns_of (base + n) turns)

-- at this turn, which is of one of the logs, the bytes written were the text of the pairs before it
abbrev pub IsPromptTurn : Frame → List (List ℕ) → (base : ℕ) → List ℕ → List ℕ → Turn → Type 0
IsPromptTurn f logs base old written t =
    (n : ℕ) × (n < length logs) × (t.input ≡ base + n) × (t.written ≤ length written)
    × Appends (IsTextAtRead f logs n t.taken) old (take t.written written)

abbrev pub ArePrompt : Frame → List (List ℕ) → (base : ℕ) → List ℕ → List ℕ → List Turn → Type 0
ArePrompt f logs base old written turns = AllByRecursion (IsPromptTurn f logs base old written) turns

-- nothing is left of any log, and each has fewer bytes than the limit
abbrev pub AreWhole : ℕ → List (List ℕ) → List ℕ → Type 0
AreWhole limit logs ts = (n : ℕ) → n < length logs → (get_or ts n 0 ≡ length (get_or logs n [])) × (get_or ts n 0 < limit)

-- the text of the pairs before the turn of a feed, of whose log so many bytes were taken that P holds
abbrev pub AtTurn : (ℕ → Type 0) → Frame → List (List ℕ) → List ℕ → List ℕ → List ℕ → Type 0
AtTurn P f logs ts old new = (n : ℕ) × (n < length logs) × P (get_or ts n 0) × Appends (IsTextAtRead f logs n (get_or ts n 0)) old new

-- a front of the text of the pairs before some turn, and so of the text of all pairs in their order
abbrev pub IsFront : Frame → List (List ℕ) → List ℕ → List ℕ → Type 0
IsFront f logs old new = (round : ℕ) × (n : ℕ) × AppendsFront (IsTextBefore f logs round n) old new

-- What holds at each status of logs that were opened, of each of which so many bytes were taken, and what was written.
abbrev pub FeedsOutcome : Frame → List (List ℕ) → (limit : ℕ) → List ℕ → List ℕ → Status → List ℕ → Type 0
FeedsOutcome f logs limit ts old Done new =
    AreWhole limit logs ts × Appends (IsFeedsText f logs) old new × (refuses_some f (length logs) (pairs_of (lines_in logs)) ≡ false)
FeedsOutcome f logs limit ts old Refusals new =
    AreWhole limit logs ts × Appends (IsFeedsText f logs) old new × (refuses_some f (length logs) (pairs_of (lines_in logs)) ≡ true)
FeedsOutcome f logs limit ts old Words new = ⊥
FeedsOutcome f logs limit ts old Rejected new = ⊥
FeedsOutcome f logs limit ts old ReadFault new = AtTurn (λ t. t < limit) f logs ts old new
FeedsOutcome f logs limit ts old TooLong new = AtTurn (λ t. t ≡ limit) f logs ts old new
FeedsOutcome f logs limit ts old WriteFault new = IsFront f logs old new
FeedsOutcome f logs limit ts old Memory new = IsFront f logs old new

-- nothing is written: an open or a read failed before all inputs were opened, or memory was wanting
abbrev pub IsUnwritten : (unopened : Type 0) → List ℕ → Status → List ℕ → Type 0
IsUnwritten unopened old status new = ((status ≡ ReadFault × unopened) ⊎ (status ≡ Memory)) × (new ≡ old)

-- the line of the refused models is written, or a front of it
abbrev pub RefusalOutcome : (List ℕ → Type 0) → List ℕ → Status → List ℕ → Type 0
RefusalOutcome Refused old status new =
    (status ≡ Rejected × Appends Refused old new) ⊎ (((status ≡ WriteFault) ⊎ (status ≡ Memory)) × AppendsFront Refused old new)

-- Of the names of the logs n were handed to open, and i inputs were opened: all of these but where that was a read fault. So many bytes of
-- each log were taken, in prompt turns.
pub record DidFollow (base now : ℕ) (f : Frame) (limit : ℕ) (old : Told) (names : List (List ℕ)) (n i : ℕ) (ts : List ℕ) (turns : List Turn)
    (status : Status) (new : Told) : Type 0 where
  pub did : Opened base now old names (left_of (map (bytes_of old) names) ts) n i turns new
  pub read : AreRead base limit (i < length names) (map (bytes_of old) names) ts turns
  pub failed : i < n → status ≡ ReadFault
  pub prompt : ArePrompt f (map (bytes_of old) names) base old.written new.written turns
  pub outcome : IsUnwritten (i < length names) old.written status new.written
      ⊎ ((i ≡ length names) × FeedsOutcome f (map (bytes_of old) names) limit ts old.written status new.written)

abbrev pub FollowsFeeds : ℕ → ℕ → Frame → ℕ → Told → List (List ℕ) → Status → Told → Type 0
FollowsFeeds base now f limit old names status new =
    (n : ℕ) × (i : ℕ) × (ts : List ℕ) × (turns : List Turn) × DidFollow base now f limit old names n i ts turns status new

-- the models, of which k bytes were taken, were read whole and are accepted for several logs as those of some frame of which P holds
abbrev pub WithLoneModels : Most → List ℕ → ℕ → (Frame → Type 0) → Type 0
WithLoneModels most models k P = (f : Frame) × IsAcceptedAlone most.symbols most.entries models f × (k ≡ length models) × P f

-- Of the names of the models and of the logs n were handed to open, those of the logs only where the models are accepted, and i inputs were
-- opened, all of these but where that was a read fault. k bytes of the models and so many of each log were taken; the turns are first of the
-- models' input and then of the logs', and the logs' are prompt.
pub record DidFeeds (base now : ℕ) (most : Most) (old : Told) (models : List ℕ) (logs : List (List ℕ)) (n i k : ℕ) (ts : List ℕ)
    (of_models of_logs : List Turn) (status : Status) (new : Told) : Type 0 where
  pub did : Opened base now old (models ∷ logs) (after (bytes_of old models) k ∷ left_of (map (bytes_of old) logs) ts) n i (of_models ++ of_logs) new
  pub models_read : IsRead base (2 ^ 20 + 1) (i < 1) (bytes_of old models) k of_models
  pub logs_read : AreRead (base + 1) most.bytes (i < length logs + 1) (map (bytes_of old) logs) ts of_logs
  pub failed : i < n → status ≡ ReadFault
  pub prompt : 1 < n → WithLoneModels most (bytes_of old models) k
      (λ f. ArePrompt f (map (bytes_of old) logs) (base + 1) old.written new.written of_logs)
  pub outcome : IsUnwritten (i < length logs + 1) old.written status new.written
      ⊎ ((i ≡ length logs + 1) × WithLoneModels most (bytes_of old models) k
      (λ f. FeedsOutcome f (map (bytes_of old) logs) most.bytes ts old.written status new.written))
      ⊎ ((n ≡ 1) × AreTaken (2 ^ 20) (bytes_of old models) k
      × RefusalOutcome (IsModelLine (IsFaulty most.symbols (bytes_of old models))) old.written status new.written)

abbrev pub RunsFeeds : ℕ → ℕ → Most → Told → List ℕ → List (List ℕ) → Status → Told → Type 0
RunsFeeds base now most old models logs status new =
    (n : ℕ) × (i : ℕ) × (k : ℕ) × (ts : List ℕ) × (of_models : List Turn) × (of_logs : List Turn)
    × DidFeeds base now most old models logs n i k ts of_models of_logs status new

-- Where no fault rose, the status is, unless memory is wanting: by the lines of the logs, where the models are accepted and each log is short
-- enough; Rejected, where the models are refused.
pub record CompletesFeeds (most : Most) (old : Told) (models : List ℕ) (logs : List (List ℕ)) (fault : Type 0) (status : Status) : Type 0 where
  pub accepted : (f : Frame) → IsAcceptedAlone most.symbols most.entries (bytes_of old models) f
      → AllByRecursion (λ log. length (bytes_of old log) < most.bytes) logs → (fault → ⊥)
      → (status ≡ Done) ⊎ (status ≡ Refusals) ⊎ (status ≡ Memory)
  pub refused : (line : ℕ) (word : ModelWord) → IsFaulty most.symbols (bytes_of old models) line word → (fault → ⊥)
      → (status ≡ Rejected) ⊎ (status ≡ Memory)
