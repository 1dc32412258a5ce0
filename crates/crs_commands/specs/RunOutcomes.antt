-- What a run does to a desk that tells its contents.
use Rattle.std.specs.Prelude.{◌≡◌, ◌⊎◌, ℕ, ◌+◌, ◌^◌, ◌<◌, ◌≤◌, Bool, true, false, List, [], ◌∷◌, ◌++◌, length, take}
use Rattle.crs_desk.specs.Desk.{Told}
use Rattle.crs_desk.specs.declared.turn.Turn.{Turn}
use Rattle.crs_model.specs.declared.models.ModelWord.{ModelWord}
use Rattle.crs_outcomes.specs.declared.status.Status.{Status}
use Rattle.crs_outcomes.specs.declared.status.Status.TheVariants.{Done, Refusals, Words, Rejected, ReadFault, WriteFault, Memory, TooLong}
use Rattle.crs_outcomes.specs.Inputs.{bytes_of, after, Opened, IsRead}
use Rattle.crs_outcomes.specs.Loads.{AreTaken, IsModelLine}
use Rattle.crs_commands.specs.Logs.{Tail, IsEndedText, IsPrompt, IsCutShort, LogOutcome}
use Rattle.crs_outcomes.specs.Writing.{Appends, AppendsFront}
use Rattle.crs_outcomes.specs.ModelTexts.{IsAccepted, IsRunFaulty}
use Rattle.crs_frames.specs.Frames.{Frame}
use Rattle.crs_session.specs.Texts.{IsWholeText, SomeRefused}
use Rattle.crs_outcomes.specs.Most.{Most}

-- the models, of which k bytes were taken, were read whole and are accepted as those of some frame of which P holds, whose lines cite
-- entries or not
abbrev pub WithModels : (cite : Bool) → Most → List ℕ → ℕ → (Frame → Type 0) → Type 0
WithModels cite most models k P = (f : Frame) × IsAccepted cite most.symbols most.entries models f × (k ≡ length models) × P f

-- What holds at each status of the models, the log, how many of the two names were handed to open (n) and how many inputs were opened (i),
-- how many bytes of the models (k) and of the log (t) were taken, and what was written.
abbrev pub Outcome : (cite : Bool) → Tail → Most → List ℕ → List ℕ → ℕ → ℕ → ℕ → ℕ → List ℕ → Status → List ℕ → Type 0
Outcome cite tail most models log n i k t old Done new =
    (n ≡ 2) × (t ≡ length log) × (t < most.bytes)
    × WithModels cite most models k (λ f. Appends (IsEndedText tail f log) old new × SomeRefused f log false)
Outcome cite tail most models log n i k t old Refusals new =
    (n ≡ 2) × (t ≡ length log) × (t < most.bytes)
    × WithModels cite most models k (λ f. Appends (IsEndedText tail f log) old new × SomeRefused f log true)
Outcome cite tail most models log n i k t old Words new = ⊥
Outcome cite tail most models log n i k t old Rejected new = (n ≡ 1) × AreTaken (2 ^ 20) models k × Appends (IsModelLine (IsRunFaulty cite most.symbols models)) old new
Outcome cite tail most models log n i k t old ReadFault new =
    ((n < 2) × (new ≡ old))
    ⊎ ((n ≡ 2) × (i ≡ 2 → t < most.bytes) × WithModels cite most models k (λ f. Appends (IsWholeText f (take t log)) old new))
Outcome cite tail most models log n i k t old TooLong new =
    (n ≡ 2) × (t ≡ most.bytes) × WithModels cite most models k (λ f. Appends (IsWholeText f (take t log)) old new)
Outcome cite tail most models log n i k t old WriteFault new =
    ((n ≡ 2) × WithModels cite most models k (λ f. IsCutShort tail f log t old new))
    ⊎ ((n ≡ 1) × AreTaken (2 ^ 20) models k × AppendsFront (IsModelLine (IsRunFaulty cite most.symbols models)) old new)
Outcome cite tail most models log n i k t old Memory new =
    (new ≡ old)
    ⊎ ((n ≡ 2) × WithModels cite most models k (λ f. IsCutShort tail f log t old new))
    ⊎ ((n ≡ 1) × AreTaken (2 ^ 20) models k × AppendsFront (IsModelLine (IsRunFaulty cite most.symbols models)) old new)

-- Of the two names n were handed to open, the log's only where the models are accepted, and i inputs were opened, all of these but where
-- that was a read fault.
-- k bytes of the models and t of the log were taken; the turns are first of the models' input and then of the log's, and the log's are
-- prompt.
pub record DidRun (base now : ℕ) (cite : Bool) (tail : Tail) (most : Most) (old : Told) (models log : List ℕ) (n i k t : ℕ)
    (of_models of_log : List Turn) (status : Status) (new : Told) : Type 0 where
  pub did : Opened base now old (models ∷ log ∷ []) (after (bytes_of old models) k ∷ after (bytes_of old log) t ∷ []) n i (of_models ++ of_log) new
  pub models_read : IsRead base (2 ^ 20 + 1) (i < 1) (bytes_of old models) k of_models
  pub log_read : IsRead (base + 1) most.bytes (i < 2) (bytes_of old log) t of_log
  pub failed : i < n → status ≡ ReadFault
  pub prompt : n ≡ 2 → WithModels cite most (bytes_of old models) k (λ f. IsPrompt f old.written (bytes_of old log) new.written of_log)
  pub outcome : Outcome cite tail most (bytes_of old models) (bytes_of old log) n i k t old.written status new.written

abbrev pub Runs : ℕ → ℕ → (cite : Bool) → Tail → Most → Told → List ℕ → List ℕ → Status → Told → Type 0
Runs base now cite tail most old models log status new =
    (n : ℕ) × (i : ℕ) × (k : ℕ) × (t : ℕ) × (of_models : List Turn) × (of_log : List Turn)
    × DidRun base now cite tail most old models log n i k t of_models of_log status new

-- What holds where the log was opened; and where it wasn't, which is a read fault or want of memory, and its name is handed over at the
-- fault alone.
abbrev pub FollowOutcome : Tail → Frame → List ℕ → ℕ → ℕ → ℕ → ℕ → List ℕ → Status → List ℕ → Type 0
FollowOutcome tail f log limit n i t old status new =
    ((n ≡ 1) × (i ≡ 1) × LogOutcome tail f log limit t old status new)
    ⊎ ((n ≡ 1) × (i ≡ 0) × (t ≡ 0) × (status ≡ ReadFault) × (new ≡ old))
    ⊎ ((n ≡ 0) × (status ≡ Memory) × (new ≡ old))

pub record Followed (base now : ℕ) (tail : Tail) (f : Frame) (limit : ℕ) (old : Told) (log : List ℕ) (n i t : ℕ) (more : List Turn)
    (status : Status) (new : Told) : Type 0 where
  pub did : Opened base now old (log ∷ []) (after (bytes_of old log) t ∷ []) n i more new
  pub read : IsRead base limit (i < 1) (bytes_of old log) t more
  pub failed : i < n → status ≡ ReadFault
  pub prompt : IsPrompt f old.written (bytes_of old log) new.written more
  pub outcome : FollowOutcome tail f (bytes_of old log) limit n i t old.written status new.written

abbrev pub Follows : ℕ → ℕ → Tail → Frame → ℕ → Told → List ℕ → Status → Told → Type 0
Follows base now tail f limit old log status new =
    (n : ℕ) × (i : ℕ) × (t : ℕ) × (more : List Turn) × Followed base now tail f limit old log n i t more status new

-- Where no fault rose, the status is, unless memory is wanting: by the lines of the log, where the models are accepted and the log is
-- short enough;
-- TooLong, where it is not; Rejected, where the models are refused.
pub record Completes (cite : Bool) (most : Most) (old : Told) (models log : List ℕ) (fault : Type 0) (status : Status) : Type 0 where
  pub accepted : (f : Frame) → IsAccepted cite most.symbols most.entries (bytes_of old models) f → length (bytes_of old log) < most.bytes
      → (fault → ⊥)
      → (status ≡ Done) ⊎ (status ≡ Refusals) ⊎ (status ≡ Memory)
  pub too_long : (f : Frame) → IsAccepted cite most.symbols most.entries (bytes_of old models) f → most.bytes ≤ length (bytes_of old log)
      → (fault → ⊥)
      → (status ≡ TooLong) ⊎ (status ≡ Memory)
  pub refused : (line : ℕ) (word : ModelWord) → IsRunFaulty cite most.symbols (bytes_of old models) line word → (fault → ⊥)
      → (status ≡ Rejected) ⊎ (status ≡ Memory)
