use Rattle.std.proofs.Common.{◌∙◌, ap, length, codes, ◌^◌}
use Rattle.crs_commands.specs.AuditOutcomes.{ground_of}
use Rattle.crs_outcomes.specs.Inputs.{bytes_of}
use Rattle.crs_outcomes.specs.Loads.{IsTooLong, IsModelLine}
use Rattle.crs_outcomes.specs.ModelTexts.{IsFaulty}
use Rattle.crs_outcomes.specs.Most.{most_of}
use Rattle.crs_commands.proofs.AuditRuns.{same_bytes, audit_ended, audit_without_log, audit_without_output, audit_judged}
use Rattle.crs_outcomes.proofs.Loads.{ends_weaker, ends_refused, long_is_faulty, all_taken}
use Rattle.crs_commands.proofs.auditing.audit_output.Goals as goal

pub returns-in-Err-clause-told : goal.returns-in-Err-clause-told
returns-in-Err-clause-told g c = λ t.
    let models = bytes_of (g.D.Desk.told c.args.desk.now) c.args.models.now in
    audit_ended _ _ (most_of c.args.limits) _ _ _ _ _ _
    (ends_weaker (2 ^ 20) (λ text. ⊥) (λ text. ⊥) (IsTooLong (2 ^ 20) (codes "model line 0 size\n") models) (IsModelLine (IsFaulty c.args.limits.symbols models)) (λ text p. p)
    (long_is_faulty c.args.limits.symbols models) _ _ _ _ _ _ (c.in-Err.ensures.told t))

pub returns-in-Err-plans_for_audit-clause-told : goal.returns-in-Err-plans_for_audit-clause-told
returns-in-Err-plans_for_audit-clause-told g c = λ t.
    let h = c.in-Ok.ensures.told t in
    let models = bytes_of (g.D.Desk.told c.args.desk.now) c.args.models.now in
    let p = rw (c.as_slice.ensures.value, h.2) at c.in-Err-plans_for_audit.ensures.refused in
    audit_ended _ _ (most_of c.args.limits) _ _ _ _ _ _
    (ends_refused _ _ (λ text. ⊥) (IsFaulty c.args.limits.symbols models) _ _ (g.D.Desk.told c.load.new.desk) _ _ _ _ _ (rw (← c.refuse.ensures.inputs) at h.1) (all_taken (2 ^ 20) models _ (ap length h.2) h.3)
    (λ line word e. rw e at p) (c.refuse.ensures.told t))

pub returns-in-Err-load_checked-clause-told : goal.returns-in-Err-load_checked-clause-told
returns-in-Err-load_checked-clause-told g c = λ t.
    let h = c.in-Ok.ensures.told t in
    let p = rw (c.as_slice.ensures.value, h.2) at c.in-Ok-plans_for_audit.ensures.ok in
    let f = p.meant c.args.limits.entries in
    audit_without_log _ _ (most_of c.args.limits) f.0 (g.D.Desk.told c.args.desk.now) (g.D.Desk.told c.load.new.desk) c.args.models.now c.args.log.now c.args.output.now _ h.0 h.1 (ap length h.2) f.1
    _ _ _ (c.in-Err-load_checked.ensures.told t)

pub returns-in-Err-load_checked-2-clause-told : goal.returns-in-Err-load_checked-2-clause-told
returns-in-Err-load_checked-2-clause-told g c = λ t.
    let old = g.D.Desk.told c.args.desk.now in
    let x = g.D.Desk.told c.load.new.desk in
    let h = c.in-Ok.ensures.told t in
    let p = rw (c.as_slice.ensures.value, h.2) at c.in-Ok-plans_for_audit.ensures.ok in
    let f = p.meant c.args.limits.entries in
    let m = c.in-Ok-load_checked.ensures.told t in
    audit_without_output _ _ (most_of c.args.limits) f.0 old x c.args.models.now c.args.log.now c.args.output.now _ h.0 h.1 (ap length h.2) f.1
    _ (g.D.Desk.told c.load_checked.new.desk) _ m.0 m.1 (ap length (m.2 ∙ same_bytes old x c.args.log.now h.1.did.files), m.3)
    _ _ _ (c.in-Err-load_checked-2.ensures.told t)

pub returns-clause-told : goal.returns-clause-told
returns-clause-told g c = λ t.
    let old = g.D.Desk.told c.args.desk.now in
    let x = g.D.Desk.told c.load.new.desk in
    let y = g.D.Desk.told c.load_checked.new.desk in
    let h = c.in-Ok.ensures.told t in
    let p = rw (c.as_slice.ensures.value, h.2) at c.in-Ok-plans_for_audit.ensures.ok in
    let f = p.meant c.args.limits.entries in
    let m = c.in-Ok-load_checked.ensures.told t in
    let r = c.in-Ok-load_checked-2.ensures.told t in
    let log_is = m.2 ∙ same_bytes old x c.args.log.now h.1.did.files in
    let output_is = r.2 ∙ same_bytes old y c.args.output.now (m.1.did.files ∙ h.1.did.files) in
    audit_judged _ _ (most_of c.args.limits) f.0 old x c.args.models.now c.args.log.now c.args.output.now _ h.0 h.1 (ap length h.2) f.1
    _ y _ m.0 m.1 (ap length log_is, m.3)
    _ _ (g.D.Desk.told c.load_checked-2.new.desk) r.0 (rw (← c.write_audit.ensures.inputs) at r.1) (ap length output_is, r.3)
    _ _ (f.2 c.as_slice-2.result.now ∙ ap (ground_of f.0) (c.as_slice-2.ensures.value ∙ log_is)) (c.as_slice-3.ensures.value ∙ output_is)
    _ _ (c.write_audit.ensures.told t)
