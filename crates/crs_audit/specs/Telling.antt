-- What is told of a line of an output, and of all its lines.
use Rattle.std.specs.Prelude.{◌≡◌, ℕ, Bool, true, false, List, ◌∷◌, Option, Some, None, Ok, Err}
use Rattle.std.specs.declared.rc.Rc.{Rc}
use Rattle.std.specs.declared.alloc.Global.{Global}
use Rattle.crs_base.specs.Lines.{Line, bytes_of}
use Rattle.crs_model.specs.declared.plan.Plan.{Plan}
use Rattle.crs_audit.specs.declared.run.Log.{Log}
use Rattle.crs_audit.specs.declared.words.AuditRefused.{AuditRefused}
use Rattle.crs_audit.specs.declared.words.AuditRefused.TheVariants.{At, Memory}
use Rattle.crs_audit.specs.declared.words.AuditWord.{AuditWord}
use Rattle.crs_audit.specs.declared.words.AuditWord.TheVariants as words
use Rattle.crs_audit.specs.Audits.{Ground, Earlier, IsVerdict, IsAudit}
use Rattle.crs_audit.specs.Claims.{Said, Other, Formless, Claims, said_of}
use Rattle.crs_audit.specs.JudgedClaims.{IsGroundOf, IfFaultless}
use Rattle.crs_audit.specs.Noted.{AreNoted}

-- whether the line is a claim, and the verdict; a claim without a fault is noted
abbrev pub IsToldOf : List (List ℕ) → List (List ℕ) → Ground → List Earlier → List ℕ → Said → Bool × Option AuditWord → Type 0
IsToldOf texts new g earlier bytes Other told = (told.0 ≡ false) × (told.1 ≡ None) × AreNoted texts new earlier
IsToldOf texts new g earlier bytes Formless told = (told.0 ≡ true) × (told.1 ≡ Some words.Form)
IsToldOf texts new g earlier bytes (Claims claim) told =
    (told.0 ≡ true) × IsVerdict g earlier bytes claim told.1 × IfFaultless told.1 (AreNoted texts new ((claim.name, claim.numbers) ∷ earlier))

-- so of a line, where the earlier claims are noted
abbrev pub TellsLine : List (Rc Plan Global) → List (List ℕ) → Log → List (List ℕ) → List (List ℕ) → Line → Bool × Option AuditWord → Type 0
TellsLine plans texts log old new l told =
    (g : Ground) (earlier : List Earlier) → IsGroundOf plans texts log g → AreNoted texts old earlier → IsToldOf texts new g earlier (bytes_of l) (said_of l) told

-- so many claims, none of which has a fault
abbrev pub TellsClaims : List (Rc Plan Global) → List (List ℕ) → Log → List ℕ → ℕ → Type 0
TellsClaims plans texts log output n = (g : Ground) → IsGroundOf plans texts log g → IsAudit g output (Ok n)

-- the first faulty line with its word; want of memory has no cause
abbrev pub TellsFault : List (Rc Plan Global) → List (List ℕ) → Log → List ℕ → AuditRefused → Type 0
TellsFault plans texts log output (At line word) = (g : Ground) → IsGroundOf plans texts log g → IsAudit g output (Err (line, word))
TellsFault plans texts log output Memory = Unit {0}
