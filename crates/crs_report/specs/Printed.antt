-- What is printed of a recognition, by the texts of a table.
use Rattle.std.specs.Prelude.{◌≡◌, ◌≤◌, ◌<◌, ℕ, Bool, List, length, map, slice_get, Option, option_map, IsSomeAnd}
use Rattle.std.specs.List.{AllByRecursion}
use Rattle.crs_base.specs.declared.symbols.Sym.{Sym}
use Rattle.crs_model.specs.declared.plan.Plans.{Plans}
use Rattle.crs_model.specs.declared.recognition.Recognition.{Recognition}
use Rattle.crs_model.specs.Models.{Chronicle}
use Rattle.crs_model.specs.SeenModels.{chronicle_of, assignment_of}
use Rattle.crs_model.specs.Renaming.{text_in, AreKnown, renamed_chronicle, renamed_assignment}
use Rattle.crs_report.specs.OutputLines.{recognition_line}

-- the chronicle of that number, from 0 in file order
abbrev pub chronicle_at : Plans → ℕ → Option (Chronicle Sym)
chronicle_at plans n = option_map (λ p. chronicle_of p.value.chronicle) (slice_get plans.plans n)

-- each has a symbol, and that a text
abbrev pub AreBound : List (List ℕ) → List (Option Sym) → Type 0
AreBound texts values = AllByRecursion (λ o. IsSomeAnd o (λ s. s.0 < length texts)) values

-- the recognition gives each event of the chronicle an entry and each variable a symbol, and what is printed of the two is in the table
pub record IsPrintable (texts : List (List ℕ)) (r : Recognition) (c : Chronicle Sym) : Type 0 where
  pub name : c.name.0 < length texts
  pub points : AreKnown texts (map (λ v. v.point) c.events)
  pub variables : AreKnown texts c.variables
  pub few : length c.variables ≤ 16
  pub entries : length r.entries ≡ length c.events
  pub each : length r.binding ≡ length c.variables
  pub values : AreBound texts r.binding

-- the recognition's line, in which its entries are cited or not
abbrev pub line_seen : (cite : Bool) → List (List ℕ) → Recognition → Chronicle Sym → List ℕ
line_seen cite texts r c = recognition_line cite (renamed_chronicle (text_in texts) c) r.mark (renamed_assignment (text_in texts) (assignment_of r))
