-- What `audit` is asked of plans, and what it answers.
use Rattle.std.specs.Prelude.{◌≡◌, ◌<◌, ◌≤◌, ℕ, List, length, map, Ok, Err, Option, slice_get}
use Rattle.std.specs.Option.{option_and_then}
use Rattle.std.specs.declared.rc.Rc.{Rc}
use Rattle.std.specs.declared.alloc.Global.{Global}
use Rattle.std.specs.List.{AllByRecursion}
use Rattle.crs_base.specs.Symbols.{Table, AreDistinct}
use Rattle.crs_model.specs.declared.plan.Plan.{Plan}
use Rattle.crs_model.specs.declared.plan.Plans.{Plans}
use Rattle.crs_model.specs.Models.{Chronicle}
use Rattle.crs_model.specs.Plans.{IsProper}
use Rattle.crs_model.specs.Renaming.{text_in, renamed_chronicle, IsChronicleOf}
use Rattle.crs_model.specs.SeenModels.{chronicle_of}
use Rattle.crs_log.specs.SeenNames.{name_seen, AreNamesIn}
use Rattle.crs_audit.specs.declared.words.AuditRefused.{AuditRefused}
use Rattle.crs_audit.specs.declared.words.AuditRefused.TheVariants.{At, Memory}
use Rattle.crs_audit.specs.Audits.{Ground, IsAudit, chronicle_named}

-- a plan's chronicle, with the texts of a table for its symbols
abbrev pub chronicle_in : List (List ℕ) → Rc Plan Global → Chronicle (List ℕ)
chronicle_in texts p = renamed_chronicle (text_in texts) (chronicle_of p.value.chronicle)

-- its name has a text
abbrev pub IsNameKnown : List (List ℕ) → Rc Plan Global → Type 0
IsNameKnown texts p = p.value.chronicle.name.0 < length texts

-- the place of the first chronicle that has the name, or none where none has it
abbrev pub IsPlaceOf : List (Chronicle (List ℕ)) → List ℕ → Option ℕ → Type 0
IsPlaceOf chronicles name place = chronicle_named chronicles name ≡ option_and_then (slice_get chronicles) place

-- what claims are judged by, with the texts of a table for the plans' symbols
abbrev pub ground_in : Plans → ℕ → Table → List ℕ → Ground
ground_in plans entries t log = record {
  chronicles = map (chronicle_in t.texts) plans.plans;
  setting = record { names = map (name_seen t.texts) plans.names; symbols = t.limit; entries = entries };
  texts = t.texts;
  log = log;
}

-- the plans are proper and no more than models may have, and the table holds the symbols of their models, none twice
pub record CanAudit (plans : Plans) (t : Table) : Type 0 where
  pub proper : AllByRecursion (λ p. IsProper p.value) plans.plans
  pub few_plans : length plans.plans ≤ 64
  pub names_in : AreNamesIn t.texts plans.names
  pub few : length plans.names ≤ 256
  pub arities : AllByRecursion (λ n. n.arity ≤ 8) plans.names
  pub chronicles_in : AllByRecursion (λ p. IsChronicleOf (λ s. s.0 < length t.texts) (chronicle_of p.value.chronicle)) plans.plans
  pub distinct : AreDistinct t.texts

-- so many claims, none of which has a fault
abbrev pub IsAuditedAs : Plans → ℕ → Table → List ℕ → List ℕ → ℕ → Type 0
IsAuditedAs plans entries t log output n = IsAudit (ground_in plans entries t log) output (Ok n)

-- the first faulty line, with its word; want of memory has no cause
abbrev pub IsRefusedAs : Plans → ℕ → Table → List ℕ → List ℕ → AuditRefused → Type 0
IsRefusedAs plans entries t log output (At line word) = IsAudit (ground_in plans entries t log) output (Err (line, word))
IsRefusedAs plans entries t log output Memory = Unit {0}
