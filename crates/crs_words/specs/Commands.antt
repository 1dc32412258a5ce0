-- What words ask for: the command by its first word, and the rest as clap defines it for that one command.
use Rattle.std.specs.Prelude.{ℕ, nat_le, ◌&&◌, Bool, false, List, [], ◌∷◌, length, map, Option, Some, None, codes, if◌then◌else◌, ◌++◌}
use Rattle.std.specs.Option.{option_and_then}
use Rattle.std.specs.Str.{bytes_eq}
use Rattle.clap.specs.Walk.{is_empty}
use Rattle.clap.specs.Words.{App, Row, first_of, all_of, fault_of, matches_of}
use Rattle.crs_base.specs.Numbers.{number_of}
use Rattle.crs_words.specs.Apps.{run_app, model_app, drill_app, import_app, audit_app, feeds_app}
use Rattle.crs_words.specs.Kinds.{tally_of}
use Rattle.crs_words.specs.declared.command.Tally.{Tally}
use Rattle.crs_words.specs.declared.command.Listing.{Listing}
use Rattle.crs_words.specs.declared.command.Listing.TheVariants.{Canonical, Minimal}
use Rattle.crs_words.specs.declared.command.Command.{Command as CodeCommand}
use Rattle.crs_words.specs.declared.command.Command.TheVariants as code

-- to recognise the models of the first name in the log of the second, with the levels of events read or not, with the numbers of the run
-- behind it or without, with the entries of each recognition cited or not, and with the pages of listeners; to print the models of a name;
-- to write the numbers of a run over the made log of so many lines that a seed gives, with the levels of events read or not; to write the
-- table of a name as a log; to check the cited recognitions of the output of the third name by the models and the log of the first two; to
-- recognise the models of a name in several logs at once, with the levels of events read or not
pub data Command : Type 0 where
  Run : (focus summary cite : Bool) → (tally : Tally) → (models log : List ℕ) → Command
  Print : (listing : Listing) → (models : List ℕ) → Command
  Drill : (focus : Bool) → (seed lines : ℕ) → Command
  Import : (table : List ℕ) → Command
  Audit : (models log output : List ℕ) → Command
  Feeds : (focus : Bool) → (models : List ℕ) → (logs : List (List ℕ)) → Command

-- a command of the program
abbrev pub command_seen : CodeCommand → Command
command_seen (code.Run focus summary cite tally models log) = Run focus summary cite tally models.now log.now
command_seen (code.Print listing models) = Print listing models.now
command_seen (code.Drill focus seed lines) = Drill focus seed lines
command_seen (code.Import table) = Import table.now
command_seen (code.Audit models log output) = Audit models.now log.now output.now
command_seen (code.Feeds focus models logs) = Feeds focus models.now (map (λ l. l.now) logs.items)

abbrev pub is_true : Option (List ℕ) → Bool
is_true None = false
is_true (Some text) = bytes_eq text (codes "true")

-- the flag was given
abbrev pub is_given : List ℕ → List Row → Bool
is_given id rows = is_true (first_of id rows)

-- what clap finds in the words, or none where it finds a fault
abbrev pub rows_in : App → List (List ℕ) → Option (List Row)
rows_in app words = if is_empty (fault_of app words) then Some (matches_of app words) else None

abbrev pub read_by : App → (List Row → Option Command) → List (List ℕ) → Option Command
read_by app command words = option_and_then command (rows_in app words)

abbrev pub run_of : (focus summary cite : Bool) → Option Tally → Option (List ℕ) → Option (List ℕ) → Option Command
run_of focus summary cite (Some tally) (Some models) (Some log) = Some (Run focus summary cite tally models log)
run_of focus summary cite (Some tally) (Some models) None = None
run_of focus summary cite (Some tally) None log = None
run_of focus summary cite None models log = None

abbrev pub run_in : List Row → Option Command
run_in rows =
    run_of (is_given (codes "focus") rows) (is_given (codes "summary") rows) (is_given (codes "cite") rows) (tally_of (first_of (codes "tally") rows))
    (first_of (codes "models") rows) (first_of (codes "log") rows)

abbrev pub listing_of : Bool → Listing
listing_of minimal = if minimal then Minimal else Canonical

abbrev pub print_of : Listing → Option (List ℕ) → Option Command
print_of listing (Some models) = Some (Print listing models)
print_of listing None = None

abbrev pub model_in : List Row → Option Command
model_in rows = print_of (listing_of (is_given (codes "minimal") rows)) (first_of (codes "models") rows)

abbrev pub in_bounds : ℕ → ℕ → ℕ → Option ℕ
in_bounds low high n = if nat_le low n && nat_le n high then Some n else None

-- the number of 1 to 19 digits, where it is between these, both included
abbrev pub number_within : ℕ → ℕ → List ℕ → Option ℕ
number_within low high word = option_and_then (in_bounds low high) (number_of word)

abbrev pub drill_of : Bool → Option ℕ → Option ℕ → Option Command
drill_of focus (Some seed) (Some lines) = Some (Drill focus seed lines)
drill_of focus (Some seed) None = None
drill_of focus None lines = None

-- a seed is 1 to 2147483646, and there are at most 1000000 lines
abbrev pub drill_in : List Row → Option Command
drill_in rows =
    drill_of (is_given (codes "focus") rows) (option_and_then (number_within 1 2147483646) (first_of (codes "seed") rows))
    (option_and_then (number_within 0 1000000) (first_of (codes "lines") rows))

abbrev pub import_of : Option (List ℕ) → Option Command
import_of (Some table) = Some (Import table)
import_of None = None

abbrev pub import_in : List Row → Option Command
import_in rows = import_of (first_of (codes "table") rows)

abbrev pub audit_of : Option (List ℕ) → Option (List ℕ) → Option (List ℕ) → Option Command
audit_of (Some models) (Some log) (Some output) = Some (Audit models log output)
audit_of (Some models) (Some log) None = None
audit_of (Some models) None output = None
audit_of None log output = None

abbrev pub audit_in : List Row → Option Command
audit_in rows = audit_of (first_of (codes "models") rows) (first_of (codes "log") rows) (first_of (codes "output") rows)

-- one to eight logs
abbrev pub is_one_to_eight : ℕ → Bool
is_one_to_eight n = nat_le 1 n && nat_le n 8

abbrev pub feeds_of : Bool → Option (List ℕ) → Option (List (List ℕ)) → Option Command
feeds_of focus (Some models) (Some logs) = if is_one_to_eight (length logs) then Some (Feeds focus models logs) else None
feeds_of focus (Some models) None = None
feeds_of focus None logs = None

abbrev pub feeds_in : List Row → Option Command
feeds_in rows = feeds_of (is_given (codes "focus") rows) (first_of (codes "models") rows) (all_of (codes "log") rows)

-- the words behind the program's name; none is no command
abbrev pub command_of : List (List ℕ) → Option Command
command_of [] = None
command_of (name ∷ rest) =
    if bytes_eq name (codes "run") then read_by run_app run_in (name ∷ rest)
    else (if bytes_eq name (codes "model") then read_by model_app model_in (name ∷ rest)
    else (if bytes_eq name (codes "drill") then read_by drill_app drill_in (name ∷ rest)
    else (if bytes_eq name (codes "import") then read_by import_app import_in (name ∷ rest)
    else (if bytes_eq name (codes "audit") then read_by audit_app audit_in (name ∷ rest)
    else (if bytes_eq name (codes "feeds") then read_by feeds_app feeds_in (name ∷ rest)
    else None)))))

-- what is written where the words are no command
abbrev pub usage_text : List ℕ
usage_text =
    codes "usage: crs run [--focus] [--summary] [--cite] [--tally KINDS] MODELS LOG\n" ++ codes "       crs model [--minimal] MODELS\n"
    ++ codes "       crs drill [--focus] SEED N\n" ++ codes "       crs import CSV\n" ++ codes "       crs feeds [--focus] MODELS LOG..\n"
    ++ codes "       crs audit MODELS LOG OUTPUT\n"
