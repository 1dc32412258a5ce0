use Rattle.std.proofs.Common.{inl, inr, refl}
use Rattle.crs_audit.specs.ClaimLines.{fault_line}
use Rattle.crs_commands.proofs.auditing.write_audit.Goals as goal

pub returns-in-Err-At-clause-told : goal.returns-in-Err-At-clause-told
returns-in-Err-At-clause-told g c = λ t.
    let fault = rw c.in-Err-At.field-0-is at c.in-Err-At.ensures.refused in
    inr (inl (
      fault_line c.in-Err-At.line c.in-Err-At.word,
      (c.in-Err-At.line, c.in-Err-At.word, fault, refl),
      rw (c.bytes-in-Err-At.ensures, c.in-Ok-audit_line.ensures) at (c.write_text-in-Err-At.ensures.told t),
    ))
