-- A log's text whose recognitions cite their entries, and its audit.
use Rattle.std.specs.Prelude.{ℕ, ◌<◌, ◌^◌, true, List, length, Ok}
use Rattle.crs_base.specs.Lines.{lines_of}
use Rattle.crs_layers.specs.Runs.{State, Effect}
use Rattle.crs_audit.specs.Audits.{IsAudit}
use Rattle.crs_commands.specs.AuditOutcomes.{ground_of}
use Rattle.crs_outcomes.specs.ModelTexts.{IsAccepted}
use Rattle.crs_session.specs.Tallies.{answers_in}
use Rattle.crs_frames.specs.Frames.{Frame}
use Rattle.crs_session.specs.Texts.{text_of, IsTraceOf}

-- The text that any log brings by models that are accepted for cited lines, with its recognitions' entries cited, has no audit fault, and as many claims as there are
-- recognitions. The limit on entries is below 2^32, as it is for every run.
abbrev pub CitedTextsHaveNoFault : Type 0
CitedTextsHaveNoFault =
    (symbols entries : ℕ) (models log : List ℕ) (f : Frame) (effects : List Effect) (last : State) → entries < 2 ^ 32
    → IsAccepted true symbols entries models f → IsTraceOf f (lines_of log) effects last
    → IsAudit (ground_of f log) (text_of true f.entries effects) (Ok (length (answers_in effects)))
