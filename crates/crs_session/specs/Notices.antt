-- What listeners are told of a log: its recognitions, in the order in which their lines are printed.
use Rattle.std.specs.Prelude.{◌≡◌, List, map, ℕ}
use Rattle.crs_base.specs.Lines.{lines_of}
use Rattle.crs_log.specs.Trace.{Answer}
use Rattle.crs_report.specs.Listeners.{Notice}
use Rattle.crs_layers.specs.Runs.{State, Effect}
use Rattle.crs_session.specs.Tallies.{answers_in}
use Rattle.crs_frames.specs.Frames.{Frame}
use Rattle.crs_session.specs.Texts.{IsTraceOf}

-- of an assignment, by the number of its chronicle
abbrev pub notice_in : Answer → Notice
notice_in a = record { chronicle = a.number; dates = map (λ e. e.date) a.assignment.entries }

-- of all that is new at the marks
abbrev pub notices_of : List Effect → List Notice
notices_of effects = map notice_in (answers_in effects)

-- of a whole log
abbrev pub AreLogNotices : Frame → List ℕ → List Notice → Type 0
AreLogNotices f log ns = (effects : List Effect) × (last : State) × IsTraceOf f (lines_of log) effects last × (ns ≡ notices_of effects)
