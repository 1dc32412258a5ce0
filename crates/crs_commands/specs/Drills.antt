-- What a drill does to a desk that tells its contents: it runs the models of drills over a made log, and writes the summary line alone.
use Rattle.std.specs.Prelude.{◌≡◌, ◌⊎◌, ℕ, ◌<◌, ◌≤◌, Bool, false, List, length}
use Rattle.crs_desk.specs.Desk.{Told}
use Rattle.crs_drill.specs.Drill.{drill_text}
use Rattle.crs_drill.specs.DrillModels.{drill_models_text}
use Rattle.crs_model.specs.declared.models.ModelWord.{ModelWord}
use Rattle.crs_outcomes.specs.declared.status.Status.{Status}
use Rattle.crs_report.specs.Summaries.{summary_line}
use Rattle.crs_report.specs.declared.summary.Summary.{Summary}
use Rattle.crs_outcomes.specs.declared.status.Status.TheVariants.{Done, Refusals, Rejected, Memory, TooLong}
use Rattle.crs_outcomes.specs.Loads.{IsModelLine}
use Rattle.crs_outcomes.specs.Status.{ended_as}
use Rattle.crs_outcomes.specs.Writing.{Appends, Says}
use Rattle.crs_outcomes.specs.ModelTexts.{IsAccepted, BreaksRule}
use Rattle.crs_outcomes.specs.Most.{Most}
use Rattle.crs_session.specs.Tallies.{IsSummaryText}
use Rattle.crs_frames.specs.Frames.{Frame}
use Rattle.crs_session.specs.Texts.{SomeRefused}

-- for want of memory nothing is written
abbrev pub IsWanting : Told → Status → Told → Type 0
IsWanting old status new = (status ≡ Memory) × (new ≡ old)

-- what a run with a summary writes behind the text of the log is written, and the status says whether a line was refused
abbrev pub SaysSummary : Bool → Frame → List ℕ → Told → Status → Told → Type 0
SaysSummary focus f log old status new =
    (text : List ℕ) × (refused : Bool) × IsSummaryText focus f log text × SomeRefused f log refused × Says (ended_as refused) old text status new

-- of a log that has as many bytes as the limit nothing is written
abbrev pub SumsUp : Bool → Frame → ℕ → List ℕ → Told → Status → Told → Type 0
SumsUp focus f limit log old status new =
    ((length log < limit) × SaysSummary focus f log old status new)
    ⊎ ((limit ≤ length log) × (status ≡ TooLong) × (new ≡ old))
    ⊎ IsWanting old status new

-- the models of drills are accepted, and the log is summed up, with the levels of events read or not; or their refusal is written
abbrev pub Drills : Bool → Most → ℕ → ℕ → Told → Status → Told → Type 0
Drills focus most seed lines old status new =
    ((f : Frame) × IsAccepted false most.symbols most.entries drill_models_text f
    × SumsUp focus f most.bytes (drill_text seed lines) old status new)
    ⊎ ((text : List ℕ) × IsModelLine (BreaksRule most.symbols drill_models_text) text × Says Rejected old text status new)
    ⊎ IsWanting old status new

-- Where no fault rose, the status is that of a run over this log, unless memory is wanting.
pub record CompletesDrill (most : Most) (seed lines : ℕ) (fault : Type 0) (status : Status) : Type 0 where
  pub accepted : (f : Frame) → IsAccepted false most.symbols most.entries drill_models_text f → length (drill_text seed lines) < most.bytes
      → (fault → ⊥)
      → ((refused : Bool) × SomeRefused f (drill_text seed lines) refused × (status ≡ ended_as refused)) ⊎ (status ≡ Memory)
  pub too_long : (f : Frame) → IsAccepted false most.symbols most.entries drill_models_text f → most.bytes ≤ length (drill_text seed lines)
      → (fault → ⊥)
      → (status ≡ TooLong) ⊎ (status ≡ Memory)
  pub refused : (line : ℕ) (word : ModelWord) → BreaksRule most.symbols drill_models_text line word → (fault → ⊥)
      → (status ≡ Rejected) ⊎ (status ≡ Memory)

-- a summary line that says that no line was refused
abbrev pub IsCleanLine : List ℕ → Type 0
IsCleanLine text = (s : Summary) × (s.refused ≡ 0) × (text ≡ summary_line s)

-- no line was refused
abbrev pub RefusesNothing : Told → Status → Told → Type 0
RefusesNothing old status new = (status ≡ Refusals → ⊥) × (status ≡ Done → Appends IsCleanLine old.written new.written)
