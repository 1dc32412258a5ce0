use Rattle.std.proofs.Common.{◌≤◌, ◌+◌, length, map}
use Rattle.std.specs.Prelude.{vec_items}
use Rattle.crs_base.specs.Lines.{lines_of}
use Rattle.crs_audit.specs.Audits.{Ground, IsAuditFrom, IsAudit}
use Rattle.crs_audit.specs.JudgedClaims.{IsGroundOf}
use Rattle.crs_audit.proofs.Lines.{Stands}
use Rattle.crs_audit.proofs.auditing.judge_all.Given as goal

-- the audit of the lines that are left is that of all
abbrev pub invariant-loop-rest : goal.invariant-loop-rest
invariant-loop-rest l = record {
  told : (g : Ground) → IsGroundOf l.ground.plans.now.plans l.ground.symbols.now.texts l.ground.log.now g
      → Stands l.ground.symbols.now.texts (map vec_items l.noted.keys) l.claims (λ earlier answer. IsAuditFrom g (l.number + 1) earlier (lines_of l.rest) answer) (IsAudit g l.output);
  few : l.claims ≤ l.number;
  within : l.number + length l.rest ≤ length l.output;
}

abbrev pub decreases-loop-rest : goal.decreases-loop-rest
decreases-loop-rest l = length l.rest
