-- What the command that checks an output does to a desk that tells its contents.
use Rattle.std.specs.Prelude.{◌≡◌, ◌⊎◌, ◌^◌, ◌+◌, ◌<◌, ◌≤◌, ℕ, true, List, [], ◌∷◌, ◌++◌, length, Result, Ok, Err, Vec}
use Rattle.std.specs.declared.alloc.Global.{Global}
use Rattle.crs_audit.specs.declared.words.AuditWord.{AuditWord}
use Rattle.crs_audit.specs.Audited.{CanAudit, ground_in}
use Rattle.crs_audit.specs.Audits.{Ground, IsAudit}
use Rattle.crs_audit.specs.ClaimLines.{fault_line, ok_line}
use Rattle.crs_base.specs.Symbols.{Table}
use Rattle.crs_desk.specs.Desk.{Told}
use Rattle.crs_desk.specs.declared.turn.Turn.{Turn}
use Rattle.crs_model.specs.declared.models.ModelWord.{ModelWord}
use Rattle.crs_model.specs.declared.plan.Plans.{Plans}
use Rattle.crs_outcomes.specs.declared.status.Status.{Status}
use Rattle.crs_outcomes.specs.declared.status.Status.TheVariants.{Done, Refusals, Words, Rejected, ReadFault, WriteFault, Memory, TooLong}
use Rattle.crs_commands.specs.Drills.{IsWanting}
use Rattle.crs_outcomes.specs.Inputs.{bytes_of, after, Opened, IsRead}
use Rattle.crs_outcomes.specs.Loads.{AreTaken, IsModelLine, Loaded}
use Rattle.crs_outcomes.specs.Writing.{Appends, AppendsFront, Says}
use Rattle.crs_outcomes.specs.ModelTexts.{IsAccepted, IsFaulty}
use Rattle.crs_outcomes.specs.Most.{Most}
use Rattle.crs_commands.specs.RunOutcomes.{WithModels}
use Rattle.crs_frames.specs.Frames.{Frame, log_setting}

-- the most bytes of a log by which an output is checked, and of the output
abbrev pub most_checked : ℕ
most_checked = 2 ^ 26

-- what claims are judged by: a log, with what it is read with
abbrev pub ground_of : Frame → List ℕ → Ground
ground_of f log = record { chronicles = f.models.chronicles; setting = log_setting f; texts = f.texts; log = log }

-- the line of an output of whose claims none has a fault
abbrev pub IsOkLine : Ground → List ℕ → List ℕ → Type 0
IsOkLine g output text = (claims : ℕ) × IsAudit g output (Ok claims) × (text ≡ ok_line claims)

-- the line of an output's first faulty claim
abbrev pub IsFaultLine : Ground → List ℕ → List ℕ → Type 0
IsFaultLine g output text = (line : ℕ) × (word : AuditWord) × IsAudit g output (Err (line, word)) × (text ≡ fault_line line word)

-- the line of what the audit answers
abbrev pub IsAuditLine : Ground → List ℕ → List ℕ → Type 0
IsAuditLine g output text = IsOkLine g output text ⊎ IsFaultLine g output text

-- all bytes were taken, which are no more than there may be
abbrev pub AreTakenWhole : List ℕ → ℕ → Type 0
AreTakenWhole bytes k = (k ≡ length bytes) × (k ≤ most_checked)

-- one byte more was taken than there may be
abbrev pub AreTakenBeyond : ℕ → Type 0
AreTakenBeyond k = k ≡ most_checked + 1

-- the models were refused, and the line that says so, or a front of it, was written
abbrev pub RefusesModels : Most → List ℕ → (n k : ℕ) → ((List ℕ → Type 0) → Type 0) → Type 0
RefusesModels most models n k Writes = (n ≡ 1) × AreTaken (2 ^ 20) models k × Writes (IsModelLine (IsFaulty most.symbols models))

-- the models were accepted and all read, and the line that says what the audit answers, or a front of it, was written
abbrev pub Judges : Most → (models log output : List ℕ) → (n k t u : ℕ) → (Ground → List ℕ → List ℕ → Type 0) → ((List ℕ → Type 0) → Type 0) → Type 0
Judges most models log output n k t u IsLine Writes =
    (n ≡ 3) × AreTakenWhole log t × AreTakenWhole output u × WithModels true most models k (λ f. Writes (IsLine (ground_of f log) output))

-- a front of the one line was written that would have been
abbrev pub IsLineCut : Most → (models log output : List ℕ) → (n k t u : ℕ) → (old new : List ℕ) → Type 0
IsLineCut most models log output n k t u old new =
    RefusesModels most models n k (λ P. AppendsFront P old new) ⊎ Judges most models log output n k t u IsAuditLine (λ P. AppendsFront P old new)

-- What holds at each status of the models, the log and the output, how many of the three names were handed to open (n), how many bytes of
-- the models (k), of the log (t) and of the output (u) were taken, and what was written.
abbrev pub AuditOutcome : Most → (models log output : List ℕ) → (n k t u : ℕ) → List ℕ → Status → List ℕ → Type 0
AuditOutcome most models log output n k t u old Done new = Judges most models log output n k t u IsOkLine (λ P. Appends P old new)
AuditOutcome most models log output n k t u old Refusals new = ⊥
AuditOutcome most models log output n k t u old Words new = ⊥
AuditOutcome most models log output n k t u old Rejected new =
    RefusesModels most models n k (λ P. Appends P old new) ⊎ Judges most models log output n k t u IsFaultLine (λ P. Appends P old new)
AuditOutcome most models log output n k t u old ReadFault new = new ≡ old
AuditOutcome most models log output n k t u old TooLong new = (((n ≡ 2) × AreTakenBeyond t) ⊎ ((n ≡ 3) × AreTakenBeyond u)) × (new ≡ old)
AuditOutcome most models log output n k t u old WriteFault new = IsLineCut most models log output n k t u old new
AuditOutcome most models log output n k t u old Memory new = (new ≡ old) ⊎ IsLineCut most models log output n k t u old new

-- Of the three names n were handed to open, the log's only where the models are accepted and the output's only where the log was read whole,
-- and i inputs were opened, all of these but where that was a read fault. k bytes of the models, t of the log and u of the output were taken,
-- in turns that are first of the models' input, then of the log's and then of the output's.
pub record DidAudit (base now : ℕ) (most : Most) (old : Told) (models log output : List ℕ) (n i k t u : ℕ)
    (of_models of_log of_output : List Turn) (status : Status) (new : Told) : Type 0 where
  pub did : Opened base now old (models ∷ log ∷ output ∷ [])
      (after (bytes_of old models) k ∷ after (bytes_of old log) t ∷ after (bytes_of old output) u ∷ []) n i (of_models ++ (of_log ++ of_output)) new
  pub models_read : IsRead base (2 ^ 20 + 1) (i < 1) (bytes_of old models) k of_models
  pub log_read : IsRead (base + 1) (most_checked + 1) (i < 2) (bytes_of old log) t of_log
  pub output_read : IsRead (base + 2) (most_checked + 1) (i < 3) (bytes_of old output) u of_output
  pub failed : i < n → status ≡ ReadFault
  pub accepted : 1 < n → WithModels true most (bytes_of old models) k (λ f. Unit {0})
  pub whole : 2 < n → AreTakenWhole (bytes_of old log) t
  pub outcome : AuditOutcome most (bytes_of old models) (bytes_of old log) (bytes_of old output) n k t u old.written status new.written

abbrev pub Audits : ℕ → ℕ → Most → Told → (models log output : List ℕ) → Status → Told → Type 0
Audits base now most old models log output status new =
    (n : ℕ) × (i : ℕ) × (k : ℕ) × (t : ℕ) × (u : ℕ) × (of_models : List Turn) × (of_log : List Turn) × (of_output : List Turn)
    × DidAudit base now most old models log output n i k t u of_models of_log of_output status new

-- Where no fault of the outside rose, the status is, unless memory is wanting: by the claims, where the models are accepted and the log and
-- the output are short enough; TooLong, where one of them isn't; Rejected, where the models are refused.
pub record CompletesAudit (most : Most) (old : Told) (models log output : List ℕ) (fault : Type 0) (status : Status) : Type 0 where
  pub faultless : (f : Frame) → IsAccepted true most.symbols most.entries (bytes_of old models) f
      → length (bytes_of old log) ≤ most_checked → length (bytes_of old output) ≤ most_checked
      → ((line : ℕ) (word : AuditWord) → IsAudit (ground_of f (bytes_of old log)) (bytes_of old output) (Err (line, word)) → ⊥)
      → (fault → ⊥) → (status ≡ Done) ⊎ (status ≡ Memory)
  pub faulty : (f : Frame) → IsAccepted true most.symbols most.entries (bytes_of old models) f
      → length (bytes_of old log) ≤ most_checked → length (bytes_of old output) ≤ most_checked
      → ((claims : ℕ) → IsAudit (ground_of f (bytes_of old log)) (bytes_of old output) (Ok claims) → ⊥)
      → (fault → ⊥) → (status ≡ Rejected) ⊎ (status ≡ Memory)
  pub too_long : (f : Frame) → IsAccepted true most.symbols most.entries (bytes_of old models) f
      → (most_checked < length (bytes_of old log)) ⊎ (most_checked < length (bytes_of old output)) → (fault → ⊥)
      → (status ≡ TooLong) ⊎ (status ≡ Memory)
  pub refused : (line : ℕ) (word : ModelWord) → IsFaulty most.symbols (bytes_of old models) line word → (fault → ⊥)
      → (status ≡ Rejected) ⊎ (status ≡ Memory)

-- the line that says what the audit of an output answers is written, or for want of memory nothing
abbrev pub SaysAudit : Ground → List ℕ → Told → Status → Told → Type 0
SaysAudit g output old status new =
    ((text : List ℕ) × IsOkLine g output text × Says Done old text status new)
    ⊎ ((text : List ℕ) × IsFaultLine g output text × Says Rejected old text status new)
    ⊎ IsWanting old status new

-- the plans are those of the models that the text means, with the symbols of the table: by them claims are judged as by the models
pub record AreAuditPlans (symbols : ℕ) (text : List ℕ) (plans : Plans) (table : Table) : Type 0 where
  pub can : CanAudit plans table
  pub meant : (entries : ℕ) → (f : Frame) × IsAccepted true symbols entries text f × ((log : List ℕ) → ground_in plans entries table log ≡ ground_of f log)

-- the call ends with this status, by how much of a log or of an output was taken
abbrev pub EndsUnread : Status → (n i k : ℕ) → Type 0
EndsUnread ReadFault n i k = (n ≡ 1) × (k ≤ most_checked)
EndsUnread TooLong n i k = (n ≡ 1) × (i ≡ 1) × AreTakenBeyond k
EndsUnread Memory n i k = n ≤ i
EndsUnread _ n i k = ⊥

-- a log or an output was read whole; or the call ends, and nothing was written
abbrev pub LoadsChecked : ℕ → ℕ → Told → List ℕ → Result (Vec ℕ Global) Status → Told → Type 0
LoadsChecked base now old name (Ok v) new =
    (more : List Turn) × Loaded base now most_checked old name 1 1 (length v.items) more new × (v.items ≡ bytes_of old name)
    × (length v.items ≤ most_checked)
LoadsChecked base now old name (Err status) new =
    (n : ℕ) × (i : ℕ) × (k : ℕ) × (more : List Turn) × Loaded base now most_checked old name n i k more new × EndsUnread status n i k
