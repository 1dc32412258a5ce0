-- What is written for the lines of a log.
use Rattle.std.specs.Prelude.{◌≡◌, ◌||◌, ℕ, Bool, true, false, List, [], ◌++◌, flat_map}
use Rattle.std.specs.List.{list_any}
use Rattle.crs_base.specs.Lines.{Line, lines_of}
use Rattle.crs_log.specs.Reading.{numbered, whole_lines}
use Rattle.crs_log.specs.Run.{Outcome, Passed, Refused, Accepted, Marked}
use Rattle.crs_log.specs.Trace.{Answer}
use Rattle.crs_report.specs.declared.refusals.Fault.TheVariants as faults
use Rattle.crs_report.specs.OutputLines.{refusal_line}
use Rattle.crs_layers.specs.Runs.{Setting, State, Effect, at_start, IsRun}
use Rattle.crs_frames.specs.Frames.{Frame, is_refused, log_setting, answer_line, fault_of}

-- what is written for the line of this number, by what became of it: a refusal, or the lines of a mark's answers
abbrev pub line_text : (cite : Bool) → ℕ → Outcome → List Answer → List ℕ
line_text cite n Passed answers = []
line_text cite n (Refused fault) answers = refusal_line n (fault_of fault)
line_text cite n (Accepted entry) answers = []
line_text cite n (Marked mark) answers = flat_map (answer_line cite mark) answers

-- what is written where some stratum didn't accept an entry that it was given at the line of this number
abbrev pub flood_text : (limit n : ℕ) → Bool → List ℕ
flood_text limit n true = refusal_line n (faults.Flood limit)
flood_text limit n false = []

-- what is written for a line, by what it brings
abbrev pub effect_text : (cite : Bool) → (limit : ℕ) → Effect → List ℕ
effect_text cite limit e = line_text cite e.number e.outcome e.answers ++ flood_text limit e.number e.flood

-- what is written for lines, by what they bring
abbrev pub text_of : (cite : Bool) → (limit : ℕ) → List Effect → List ℕ
text_of cite limit effects = flat_map (effect_text cite limit) effects

abbrev pub setting_of : Frame → Setting
setting_of f = record { log = log_setting f; placed = f.placed }

-- the state before the first line
abbrev pub start_of : Frame → State
start_of f = at_start (setting_of f) f.texts

-- what these lines of a log bring, of which the first is met at the start, and the state behind them
abbrev pub IsTraceOf : Frame → List Line → List Effect → State → Type 0
IsTraceOf f lines effects last = IsRun (setting_of f) (start_of f) (numbered lines) effects last

-- the text of what they bring
abbrev pub IsTextOf : Frame → List Line → List ℕ → Type 0
IsTextOf f lines text = (effects : List Effect) × (last : State) × IsTraceOf f lines effects last × (text ≡ text_of f.cite f.entries effects)

-- what is written for a whole log
abbrev pub IsLogText : Frame → List ℕ → List ℕ → Type 0
IsLogText f log text = IsTextOf f (lines_of log) text

-- what is written for the lines of the bytes that a line feed ends
abbrev pub IsWholeText : Frame → List ℕ → List ℕ → Type 0
IsWholeText f bytes text = IsTextOf f (whole_lines bytes) text

-- the line was refused, or some stratum didn't accept an entry that it was given at it
abbrev pub has_refused : Effect → Bool
has_refused e = is_refused e.outcome || e.flood

-- whether some line of the log was refused, or some given entry not accepted
abbrev pub SomeRefused : Frame → List ℕ → Bool → Type 0
SomeRefused f log refused = (effects : List Effect) × (last : State) × IsTraceOf f (lines_of log) effects last × (refused ≡ list_any has_refused effects)
