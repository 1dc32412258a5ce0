-- What claims are judged by, and what is said of one.
use Rattle.std.specs.Prelude.{◌≡◌, ◌<◌, ◌≤◌, ◌^◌, ℕ, List, ◌∷◌, length, map, Option, Some, None, option_map}
use Rattle.std.specs.declared.rc.Rc.{Rc}
use Rattle.std.specs.declared.alloc.Global.{Global}
use Rattle.std.specs.List.{AllByRecursion}
use Rattle.crs_base.specs.Words.{Ordered}
use Rattle.crs_base.specs.Entry.{IsInKeyOrder}
use Rattle.crs_base.specs.Symbols.{AreDistinct}
use Rattle.crs_model.specs.declared.plan.Plan.{Plan}
use Rattle.crs_model.specs.declared.recognition.Mark.{Mark}
use Rattle.crs_model.specs.Order.{HaveSameMembers}
use Rattle.crs_model.specs.Plans.{IsProper}
use Rattle.crs_model.specs.Renaming.{IsChronicleOf, IsEntryOf}
use Rattle.crs_model.specs.SeenModels.{chronicle_of}
use Rattle.crs_audit.specs.declared.run.Log.{Log}
use Rattle.crs_audit.specs.declared.words.AuditWord.{AuditWord}
use Rattle.crs_audit.specs.Audits.{Ground, Earlier, view_at, IsVerdict}
use Rattle.crs_audit.specs.Audited.{chronicle_in}
use Rattle.crs_audit.specs.Claims.{Claim}
use Rattle.crs_audit.specs.Noted.{AreNoted}
use Rattle.crs_audit.specs.Notes.{number_of}
use Rattle.crs_audit.specs.Runs.{entries_of, entries_seen, ArePlaced, stand_seen, last_numbered}

-- the plans are proper, the texts are those of their symbols and of the log's, and the log is whole
pub record CanJudge (plans : List (Rc Plan Global)) (texts : List (List ℕ)) (log : Log) : Type 0 where
  pub proper : AllByRecursion (λ p. IsProper p.value) plans
  pub chronicles_in : AllByRecursion (λ p. IsChronicleOf (λ s. s.0 < length texts) (chronicle_of p.value.chronicle)) plans
  pub few_chronicles : length plans ≤ 64
  pub distinct : AreDistinct texts
  pub known : AllByRecursion (IsEntryOf (λ s. s.0 < length texts)) (entries_of log.entries)
  pub placed : ArePlaced 0 (entries_of log.entries)
  pub dated : AllByRecursion (λ e. e.date < 2 ^ 40) (entries_of log.entries)
  pub few : length log.by_key.items < 2 ^ 32
  pub ascending : Ordered (λ r s. r.number ≤ s.number) log.marks
  pub in_order : IsInKeyOrder (entries_of log.by_key.items)
  pub same : HaveSameMembers (entries_of log.by_key.items) (entries_of log.entries)

-- the chronicles and the log are those of the plans and of the log that was read
pub record IsGroundOf (plans : List (Rc Plan Global)) (texts : List (List ℕ)) (log : Log) (g : Ground) : Type 0 where
  pub chronicles : g.chronicles ≡ map (chronicle_in texts) plans
  pub views : (m : Mark) → view_at g m ≡ option_map (λ s. (stand_seen (entries_seen texts log.entries) s).1) (last_numbered log.marks (number_of m))

-- P, where no fault is found
abbrev pub IfFaultless : Option AuditWord → Type 0 → Type 0
IfFaultless None P = P
IfFaultless (Some word) P = Unit {0}

-- the verdict of a claim, where the earlier ones are noted; without a fault it is noted too
abbrev pub Judges : List (Rc Plan Global) → List (List ℕ) → Log → List (List ℕ) → List (List ℕ) → List ℕ → Claim → Option AuditWord → Type 0
Judges plans texts log old new bytes claim verdict =
    (g : Ground) (earlier : List Earlier) → IsGroundOf plans texts log g → AreNoted texts old earlier
    → IsVerdict g earlier bytes claim verdict × IfFaultless verdict (AreNoted texts new ((claim.name, claim.numbers) ∷ earlier))
