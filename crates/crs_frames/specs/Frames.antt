-- What a log is read with, and how what becomes of its lines is told.
use Rattle.crs_base.specs.Entry.{Entry}
use Rattle.crs_layers.specs.Strata.{Placed}
use Rattle.crs_log.specs.Run as run
use Rattle.crs_log.specs.Run.{Outcome, Passed, Refused, Accepted, Marked}
use Rattle.crs_log.specs.Trace.{Answer}
use Rattle.crs_model.specs.Hierarchy.{AreStrata}
use Rattle.crs_model.specs.Models.{Chronicle, Models}
use Rattle.crs_model.specs.ShortLags.{AreLags}
use Rattle.crs_model.specs.declared.recognition.Mark.{Mark}
use Rattle.crs_report.specs.OutputLines.{recognition_line}
use Rattle.crs_report.specs.declared.refusals.Fault.TheVariants as faults
use Rattle.crs_report.specs.declared.refusals.Fault.{Fault}
use Rattle.std.specs.Prelude.{◌≡◌, ℕ, ℤ, Bool, true, false, List, [], ◌∷◌, Option}

abbrev pub LogEntry : Type 0
LogEntry = Entry (List ℕ)

-- the fault of a line, as it is printed
abbrev pub fault_of : run.Fault → Fault
fault_of run.TooLong = faults.Long
fault_of run.Form = faults.Form
fault_of run.Order = faults.Order
fault_of (run.Back t last) = faults.Back t last
fault_of (run.Late date horizon) = faults.Late date horizon
fault_of run.Arity = faults.Arity
fault_of run.Value = faults.Value
fault_of (run.Full limit) = faults.Full limit
fault_of (run.Values limit) = faults.Values limit

-- the line of an answer, in which its entries are cited or not
abbrev pub answer_line : (cite : Bool) → Mark → Answer → List ℕ
answer_line cite mark a = recognition_line cite a.chronicle mark a.assignment

-- what a log is read with: the names, chronicles and symbols of the models, each chronicle with its stratum and its lag, the limits on symbols and
-- entries, and whether the entries of recognitions are cited
pub record Frame : Type 0 where
  pub models : Models (List ℕ)
  pub texts : List (List ℕ)
  pub placed : List (Placed (List ℕ))
  pub symbols : ℕ
  pub entries : ℕ
  pub cite : Bool

-- what the lines of a log are read with, apart from the strata
abbrev pub log_setting : Frame → run.Setting
log_setting f = record { names = f.models.names; symbols = f.symbols; entries = f.entries }

abbrev pub is_refused : Outcome → Bool
is_refused Passed = false
is_refused (Refused fault) = true
is_refused (Accepted entry) = false
is_refused (Marked mark) = false

-- chronicles, each with one of these strata and lags
abbrev pub placed_by : List (Chronicle (List ℕ)) → List ℕ → List (Option ℤ) → List (Placed (List ℕ))
placed_by [] strata lags = []
placed_by (c ∷ cs) [] lags = []
placed_by (c ∷ cs) (k ∷ ks) [] = []
placed_by (c ∷ cs) (k ∷ ks) (l ∷ ls) = record { chronicle = c; stratum = k; lag = l } ∷ placed_by cs ks ls

-- each chronicle with its own stratum and lag
pub record ArePlaced (cs : List (Chronicle (List ℕ))) (placed : List (Placed (List ℕ))) : Type 0 where
  pub strata : List ℕ
  pub lags : List (Option ℤ)
  pub are_strata : AreStrata cs strata
  pub are_lags : AreLags cs lags
  pub is : placed ≡ placed_by cs strata lags
