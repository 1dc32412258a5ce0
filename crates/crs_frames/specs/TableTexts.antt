-- Plans, entries and recognitions by the texts of a table of symbols; and when a line of a log is short, or blank.
use Rattle.std.specs.Prelude.{◌≡◌, ◌≤◌, ℕ, Bool, false, true, List, [], length, map, IsSomeAnd}
use Rattle.std.specs.List.{AllByRecursion}
use Rattle.std.specs.Option.{option_map_or}
use Rattle.crs_base.specs.Entry.{Entry}
use Rattle.crs_base.specs.Symbols.{Table, AreDistinct as TextsAreDistinct}
use Rattle.crs_base.specs.declared.symbols.Sym.{Sym}
use Rattle.crs_model.specs.declared.plan.Plan.{Plan}
use Rattle.crs_model.specs.declared.plan.Plans.{Plans}
use Rattle.crs_model.specs.declared.recognition.Recognition.{Recognition}
use Rattle.crs_model.specs.Models.{Chronicle}
use Rattle.crs_model.specs.Plans.{chronicle, IsProper}
use Rattle.crs_model.specs.Renaming.{text_in, renamed_chronicle, renamed_entry, IsChronicleOf}
use Rattle.crs_report.specs.Printed.{chronicle_at, line_seen, IsPrintable}
use Rattle.crs_log.specs.ItemOf.{What, Empty, Is, Faulty}
use Rattle.crs_log.specs.Reading.{Given, Plain, Long}
use Rattle.crs_log.specs.SeenNames.{name_seen, AreNamesIn}
use Rattle.crs_engine.specs.Engines.{plans_of}
use Rattle.crs_layers.specs.Standing.{HasText}
use Rattle.crs_frames.specs.Frames.{Frame}

-- the plan's chronicle with the texts of its symbols
abbrev pub chronicle_in : List (List ℕ) → Plan → Chronicle (List ℕ)
chronicle_in texts p = renamed_chronicle (text_in texts) (chronicle p)

abbrev pub entries_in : List (List ℕ) → List (Entry Sym) → List (Entry (List ℕ))
entries_in texts es = map (renamed_entry (text_in texts)) es

-- the plans are those of the frame's models, by the texts of the table
pub record HasModels (f : Frame) (plans : Plans) (table : Table) : Type 0 where
  pub proper : AllByRecursion IsProper (plans_of plans)
  pub names : f.models.names ≡ map (name_seen table.texts) plans.names
  pub names_in : AreNamesIn table.texts plans.names
  pub names_few : length plans.names ≤ 256
  pub arities : AllByRecursion (λ n. n.arity ≤ 8) plans.names
  pub chronicles : f.models.chronicles ≡ map (chronicle_in table.texts) (plans_of plans)
  pub chronicles_in : AllByRecursion (λ p. IsChronicleOf (HasText table.texts) (chronicle p)) (plans_of plans)
  pub distinct : TextsAreDistinct table.texts
  pub limit : table.limit ≡ f.symbols

-- the line of a recognition, in which its entries are cited or not, by the texts of the table; none where there is no chronicle of its number
abbrev pub line_in : (cite : Bool) → Plans → List (List ℕ) → Recognition → List ℕ
line_in cite plans texts r = option_map_or (line_seen cite texts r) (chronicle_at plans r.chronicle) []

abbrev pub ArePrintable : Plans → List (List ℕ) → List Recognition → Type 0
ArePrintable plans texts rs = AllByRecursion (λ r. IsSomeAnd (chronicle_at plans r.chronicle) (IsPrintable texts r)) rs

-- a line that is given whole has at most 4096 bytes
abbrev pub IsShort : Given → Type 0
IsShort (Long n) = Unit {0}
IsShort (Plain n bytes) = length bytes ≤ 4096

abbrev pub is_blank_what : What → Bool
is_blank_what Empty = true
is_blank_what (Is item) = false
is_blank_what Faulty = false
