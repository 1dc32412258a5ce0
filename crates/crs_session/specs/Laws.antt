-- Laws of what is written for a log.
use Rattle.std.specs.Prelude.{◌≡◌, ℕ, Bool, List, [], flat_map, map}
use Rattle.std.specs.List.{AllByRecursion, list_any}
use Rattle.crs_base.specs.Lines.{Line}
use Rattle.crs_log.specs.Reading.{numbered}
use Rattle.crs_log.specs.Run as run
use Rattle.crs_log.specs.Trace as trace
use Rattle.crs_layers.specs.Laws.{flat}
use Rattle.crs_layers.specs.Runs.{State, Effect}
use Rattle.crs_session.specs.Tallies.{answers_in}
use Rattle.crs_frames.specs.Frames.{Frame, log_setting, is_refused, ArePlaced}
use Rattle.crs_session.specs.Texts.{IsTraceOf, IsLogText, line_text, text_of, has_refused}

-- A log has one text by given models and limits.
abbrev pub LogTextIsOne : Type 0
LogTextIsOne = (f : Frame) (log a b : List ℕ) → IsLogText f log a → IsLogText f log b → a ≡ b

-- what is written for the lines of a log alone, by what they bring
abbrev pub lone_text : (cite : Bool) → List trace.Effect → List ℕ
lone_text cite effects = flat_map (λ e. line_text cite e.number e.outcome e.answers) effects

-- what lines bring is what they bring to the log alone: its trace, its text, its answers, and whether some line is refused
pub record IsLone (f : Frame) (lines : List Line) (effects : List Effect) (last : State) : Type 0 where
  pub trace_is : trace.IsTrace (log_setting f) f.models.chronicles (run.at_start f.texts) (numbered lines) (map flat effects) last.log
  pub text_is : (cite : Bool) → text_of cite f.entries effects ≡ lone_text cite (map flat effects)
  pub answers_are : answers_in effects ≡ trace.answers_in (map flat effects)
  pub refused_is : list_any has_refused effects ≡ list_any is_refused (map (λ e. e.outcome) (map flat effects))

-- So it is where no chronicle gives entries.
abbrev pub TracesWithoutEmitsAreLone : Type 0
TracesWithoutEmitsAreLone =
    (f : Frame) (lines : List Line) (effects : List Effect) (last : State) → ArePlaced f.models.chronicles f.placed → AllByRecursion (λ c. c.emits ≡ []) f.models.chronicles
    → IsTraceOf f lines effects last → IsLone f lines effects last
