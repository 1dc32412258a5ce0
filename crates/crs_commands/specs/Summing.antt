-- A log that is held whole, and its numbers.
use Rattle.std.specs.Prelude.{◌⊎◌, ℕ, nat_lt, List}
use Rattle.crs_base.specs.Lines.{lines_of}
use Rattle.crs_desk.specs.Desk.{Told}
use Rattle.crs_log.specs.Reading.{numbered}
use Rattle.crs_layers.specs.Runs.{State}
use Rattle.crs_report.specs.Summaries.{summary_line}
use Rattle.crs_report.specs.declared.summary.Summary.{Summary}
use Rattle.crs_session.specs.declared.session.Session.{Session}
use Rattle.crs_outcomes.specs.declared.status.Status.{Status}
use Rattle.crs_commands.specs.Drills.{IsWanting}
use Rattle.crs_outcomes.specs.Status.{ended_as}
use Rattle.crs_outcomes.specs.Writing.{Says}
use Rattle.crs_session.specs.Session.{Represents}
use Rattle.crs_session.specs.Taking.{Takes}
use Rattle.crs_session.specs.Tallies.{IsSummary}
use Rattle.crs_frames.specs.Frames.{Frame}
use Rattle.crs_session.specs.Texts.{start_of}
use Rattle.crs_session.specs.Written.{Written, unwritten}

-- each line of the log is taken
abbrev pub TakesLog : List ℕ → Session → Session → Type 0
TakesLog log old new = (f : Frame) (s : State) → Represents f old s
    → (all : Written) × Takes f old.layers.focus old.counts new s (numbered (lines_of log)) unwritten all

-- these are the numbers of a run over the log, which starts from the session
abbrev pub IsSummed : Session → List ℕ → Summary → Type 0
IsSummed x log s = (f : Frame) → Represents f x (start_of f) → IsSummary x.layers.focus f log s

-- the line of these numbers is written, and the status says whether a line was refused
abbrev pub WritesSummary : Summary → Told → Status → Told → Type 0
WritesSummary s old status new = Says (ended_as (nat_lt 0 s.refused)) old (summary_line s) status new ⊎ IsWanting old status new
