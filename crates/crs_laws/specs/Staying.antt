-- What was read behind some lines of a log, behind further ones.
use Rattle.std.specs.Prelude.{ℕ, Bool, List}
use Rattle.std.specs.List.{AllZip}
use Rattle.crs_log.specs.Reading.{Given}
use Rattle.crs_log.specs.Recognitions.{Stays}
use Rattle.crs_layers.specs.Runs.{State, Effect, IsRun, views_of}
use Rattle.crs_frames.specs.Frames.{Frame}
use Rattle.crs_session.specs.Texts.{setting_of, start_of}
use Rattle.crs_outcomes.specs.ModelTexts.{IsAccepted}

-- What is settled in a stratum stays settled, and what is recognised in it stays recognised.
abbrev pub RecognitionsStay : Type 0
RecognitionsStay =
    (cite : Bool) (symbols entries : ℕ) (models : List ℕ) (f : Frame) (lines further : List Given) (effects later : List Effect) (s t : State)
    → IsAccepted cite symbols entries models f → IsRun (setting_of f) (start_of f) lines effects s → IsRun (setting_of f) s further later t
    → AllZip Stays (views_of (setting_of f) s) (views_of (setting_of f) t)
