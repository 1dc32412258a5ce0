-- Several logs that are open, between two turns of their feeds.
use Rattle.std.specs.Prelude.{◌≡◌, ◌⊎◌, ℕ, ◌+◌, ◌-◌, ◌<◌, ◌≤◌, min, nat_lt, Bool, true, false, cond, List, [], ◌∷◌, ◌++◌, length, map, take, get_or, Result, Ok, Err}
use Rattle.crs_base.specs.Lines.{lines_of}
use Rattle.crs_desk.specs.Desk.{Told, Rises, Reads, Wrote}
use Rattle.crs_desk.specs.declared.turn.Turn.{Turn}
use Rattle.crs_desk.specs.declared.desk.DeskError.{DeskError}
use Rattle.crs_desk.specs.declared.desk.DeskError.TheVariants as errors
use Rattle.crs_log.specs.Reading.{Reader, Given, Gives, HasNoLine, given, numbered, ahead}
use Rattle.crs_rounds.specs.declared.merged.MergedSession.{MergedSession}
use Rattle.crs_rounds.specs.declared.source.Source.{Source}
use Rattle.crs_outcomes.specs.declared.status.Status.{Status}
use Rattle.crs_outcomes.specs.declared.status.Status.TheVariants.{Done, Refusals, Words, Rejected, ReadFault, WriteFault, Memory, TooLong}
use Rattle.crs_rounds.specs.FeedOutcomes.{AreRead, ArePrompt, FeedsOutcome, left_of, turns_of}
use Rattle.crs_outcomes.specs.Inputs.{bytes_of}
use Rattle.crs_rounds.specs.MergedSession.{StandsBehind, BringsLine, feeds_of}
use Rattle.crs_rounds.specs.PairTexts.{IsTextBefore, refuses_some}
use Rattle.crs_rounds.specs.FeedRounds.{pairs_before, lines_in}
use Rattle.crs_frames.specs.Frames.{Frame}

-- a reader of lines that was fed nothing
abbrev pub new_reader : Reader
new_reader = record { limit = 4096; number = 0; rest = []; finished = false; fed = 0 }

-- a log that was just opened
abbrev pub new_source : ℕ → Source
new_source input = record { input = input; taken = 0; lines = new_reader; finished = false }

-- the logs of these names, which were opened one after the other
abbrev pub new_sources : ℕ → List (List ℕ) → List Source
new_sources input [] = []
new_sources input (name ∷ names) = new_source input ∷ new_sources (input + 1) names

abbrev pub source_at : List Source → ℕ → Source
source_at ss n = get_or ss n (new_source 0)

-- where the end of a log was met, nothing follows what was fed
abbrev pub Follows : Source → List ℕ → Type 0
Follows s more = s.finished ≡ true → more ≡ []

-- A source that was fed these bytes, and has given a line in each of k turns; or all lines, where the end was met.
pub record StandsAt (limit : ℕ) (fed : List ℕ) (k : ℕ) (s : Source) : Type 0 where
  pub short : s.lines.limit ≡ 4096
  pub ended : s.lines.finished ≡ s.finished
  pub fed_is : s.lines.fed ≡ s.taken
  pub taken : s.taken ≡ length fed
  pub most : s.taken ≤ limit
  pub told : List Given
  pub lines : (more : List ℕ) → Follows s more → given 4096 0 (fed ++ more) ≡ told ++ ahead s.lines more
  pub place : (length told ≡ k) ⊎ ((length told ≤ k) × (s.finished ≡ true) × (ahead s.lines [] ≡ []))

-- an input that was opened, at its place in the rounds
abbrev pub IsSourceAt : (inputs limit k : ℕ) → Source → Type 0
IsSourceAt inputs limit k s = (s.input < inputs) × (fed : List ℕ) × StandsAt limit fed k s

-- in how many rounds feed j had its turn, before that of feed n in a round
abbrev pub turns_before : (round n j : ℕ) → ℕ
turns_before round n j = cond (nat_lt j n) (round + 1) round

-- the bytes that came are the next of the source, or its end was met
pub record IsFed (piece : List ℕ) (old new : Source) : Type 0 where
  pub input : new.input ≡ old.input
  pub taken : new.taken ≡ old.taken + length piece
  pub going : new.finished ≡ false
  pub limit : new.lines.limit ≡ old.lines.limit
  pub open_still : new.lines.finished ≡ old.lines.finished
  pub fed : new.lines.fed ≡ old.lines.fed + length piece
  pub ahead_is : (more : List ℕ) → ahead new.lines more ≡ ahead old.lines (piece ++ more)

abbrev pub closed : Source → Source
closed s = record s { lines = record s.lines { finished = true }; finished = true }

abbrev pub IsFilled : List ℕ → Source → Source → Type 0
IsFilled piece old new = ((piece ≡ []) × (new ≡ closed old)) ⊎ ((0 < length piece) × IsFed piece old new)

-- a read into as many bytes as are left to the limit
pub record HasRead (limit : ℕ) (old : Told) (s : Source) (result : Result ℕ DeskError) (buf : List ℕ) (new : Told) : Type 0 where
  pub reads : Reads old s.input result buf new
  pub room : length buf ≡ min 4096 (limit - s.taken)
  pub below : s.taken < limit

-- what a read of a source does, by its answer: the next bytes come, or its end is met; it fails; as many bytes were taken as may be; or memory
-- is wanting, before or behind the bytes
abbrev pub ReadsSource : (limit : ℕ) → Told → Source → Result (Unit {0}) Status → Source → Told → Type 0
ReadsSource limit old s (Ok u) t new =
    (n : ℕ) × (buf : List ℕ) × HasRead limit old s (Ok n) buf new × (n ≤ length buf) × IsFilled (take n buf) s t
ReadsSource limit old s (Err Done) t new = ⊥
ReadsSource limit old s (Err Refusals) t new = ⊥
ReadsSource limit old s (Err Words) t new = ⊥
ReadsSource limit old s (Err Rejected) t new = ⊥
ReadsSource limit old s (Err ReadFault) t new = (buf : List ℕ) × HasRead limit old s (Err errors.Failed) buf new × (t ≡ s)
ReadsSource limit old s (Err WriteFault) t new = ⊥
ReadsSource limit old s (Err Memory) t new =
    ((buf : List ℕ) × HasRead limit old s (Err errors.Memory) buf new × (t ≡ s))
    ⊎ ((n : ℕ) × (buf : List ℕ) × HasRead limit old s (Ok n) buf new × (n ≤ length buf) × (t.input ≡ s.input) × (t.taken ≡ s.taken + n))
ReadsSource limit old s (Err TooLong) t new = (limit ≤ s.taken) × (t ≡ s) × (new ≡ old)

-- what is taken of a source by its next whole line, or where it holds none
abbrev pub TakesHeld : Source → Source → (n : ℕ) → MergedSession → MergedSession → (out more : List ℕ) → Bool → Type 0
TakesHeld s t n x y out more true =
    (g : Given) × Gives s.lines g t.lines × (t.finished ≡ s.finished) × BringsLine x y n g out more
TakesHeld s t n x y out more false = (t ≡ s) × HasNoLine s.lines × (y ≡ x) × (more ≡ out)

-- what was pending is written, or a front of it
abbrev pub Flushes : Told → List ℕ → Result (Unit {0}) Status → Told → Type 0
Flushes old out (Ok u) new = Wrote old out (length out) new
Flushes old out (Err status) new = ((status ≡ WriteFault) ⊎ (status ≡ Memory)) × (k : ℕ) × Wrote old out k new

-- ---- all logs

-- inputs that were opened, each at its place before the turn of feed n in a round
abbrev pub AreSourcesAt : (inputs limit round n : ℕ) → List Source → Type 0
AreSourcesAt inputs limit round n ss = (j : ℕ) → j < length ss → IsSourceAt inputs limit (turns_before round n j) (source_at ss j)

-- So many bytes of each log were read, in prompt turns, and some text was written; the logs were opened behind `old`.
pub record HaveRead (f : Frame) (base limit : ℕ) (old : Told) (names : List (List ℕ)) (ts : List ℕ) (turns : List Turn) (now : Told) : Type 0 where
  pub base_is : length old.left ≡ base
  pub files : now.files ≡ old.files
  pub opened : now.opened ≡ old.opened ++ names
  pub left : now.left ≡ old.left ++ left_of (map (bytes_of old) names) ts
  pub turns_are : now.turns ≡ old.turns ++ turns
  pub read : AreRead base limit ⊥ (map (bytes_of old) names) ts turns
  pub prompt : ArePrompt f (map (bytes_of old) names) base old.written now.written turns

-- how many bytes of each log were taken
abbrev pub taken_of : List Source → List ℕ
taken_of ss = map (λ s. s.taken) ss

-- The source of a log at its place in the rounds: its end was met only where nothing is left, and a read is still to come where it wasn't.
pub record IsSourceOf (base limit k : ℕ) (turns : List Turn) (n : ℕ) (log : List ℕ) (s : Source) : Type 0 where
  pub input : s.input ≡ base + n
  pub stands : StandsAt limit (take s.taken log) k s
  pub whole : s.finished ≡ true → (s.taken ≡ length log) × (s.taken < limit)
  pub rises : s.finished ≡ false → Rises (base + n) 0 s.taken (turns_of (base + n) turns)

-- Before the turn of feed n in a round: the session stands behind the pairs before it, and their text is written, or pending in `out`.
pub record AreAt (f : Frame) (base limit : ℕ) (old : Told) (names : List (List ℕ)) (round n : ℕ) (ss : List Source) (x : MergedSession)
    (out : List ℕ) (now : Told) : Type 0 where
  pub count : length ss ≡ length names
  pub turns : List Turn
  pub read : HaveRead f base limit old names (taken_of ss) turns now
  pub sources : (j : ℕ) → j < length names
      → IsSourceOf base limit (turns_before round n j) turns j (get_or (map (bytes_of old) names) j []) (source_at ss j)
  pub state : StandsBehind f x (pairs_before round n (lines_in (map (bytes_of old) names)))
  pub feeds : feeds_of x ≡ length names
  pub written : List ℕ
  pub is_text : IsTextBefore f (map (bytes_of old) names) round n (written ++ out)
  pub written_is : now.written ≡ old.written ++ written
  pub refused : x.refused ≡ refuses_some f (length names) (pairs_before round n (lines_in (map (bytes_of old) names)))

-- the call ends with this status
pub record HaveStopped (f : Frame) (base limit : ℕ) (old : Told) (names : List (List ℕ)) (ss : List Source) (status : Status) (now : Told) : Type 0 where
  pub turns : List Turn
  pub read : HaveRead f base limit old names (taken_of ss) turns now
  pub outcome : FeedsOutcome f (map (bytes_of old) names) limit (taken_of ss) old.written status now.written

-- the log was given whole before this round
pub record IsSpent (round : ℕ) (log : List ℕ) (s : Source) : Type 0 where
  pub finished : s.finished ≡ true
  pub few : length (numbered (lines_of log)) ≤ round

-- after its turn feed n gave a line, or has none left; or the call ends
abbrev pub TakesTurn : (f : Frame) (base limit : ℕ) (old : Told) (names : List (List ℕ)) (round n : ℕ) (ss : List Source) → Result Bool Status
    → MergedSession → List ℕ → Told → Type 0
TakesTurn f base limit old names round n ss (Ok gave) x out now =
    AreAt f base limit old names round (n + 1) ss x out now
    × (gave ≡ false → IsSpent round (get_or (map (bytes_of old) names) n []) (source_at ss n))
TakesTurn f base limit old names round n ss (Err status) x out now = HaveStopped f base limit old names ss status now

-- after a round some feed gave a line, or no log has one left; or the call ends
abbrev pub TakesRound : (f : Frame) (base limit : ℕ) (old : Told) (names : List (List ℕ)) (round : ℕ) (ss : List Source) → Result Bool Status
    → MergedSession → List ℕ → Told → Type 0
TakesRound f base limit old names round ss (Ok some) x out now =
    AreAt f base limit old names (round + 1) 0 ss x out now
    × (some ≡ false → (j : ℕ) → j < length names → IsSpent round (get_or (map (bytes_of old) names) j []) (source_at ss j))
TakesRound f base limit old names round ss (Err status) x out now = HaveStopped f base limit old names ss status now

-- after all rounds no log has a line left; or the call ends
abbrev pub TakesRounds : (f : Frame) (base limit : ℕ) (old : Told) (names : List (List ℕ)) (ss : List Source) → Result (Unit {0}) Status
    → MergedSession → List ℕ → Told → Type 0
TakesRounds f base limit old names ss (Ok u) x out now =
    (round : ℕ) × AreAt f base limit old names (round + 1) 0 ss x out now
    × ((j : ℕ) → j < length names → IsSpent round (get_or (map (bytes_of old) names) j []) (source_at ss j))
TakesRounds f base limit old names ss (Err status) x out now = HaveStopped f base limit old names ss status now
