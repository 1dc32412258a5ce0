use Rattle.std.proofs.Common.{◌∙◌, ap, sym}
use Rattle.crs_desk.specs.Desk.{Stream}
use Rattle.crs_outcomes.proofs.Loads.{opened_stream}
use Rattle.crs_commands.proofs.Follows.{follow_failed, follow_refused, follow_read}
use Rattle.crs_commands.proofs.running.follow.Goals as goal

pub read_log-requires-clause-fresh : goal.read_log-requires-clause-fresh
read_log-requires-clause-fresh g c = λ t.
    ap (λ (s : Stream). s.taken) (opened_stream (g.D.Desk.told c.args.desk.now) (g.D.Desk.told c.open.new.self) c.args.log.now c.in-Ok.input
    (c.in-Ok.ensures.number ∙ sym (g.met.D.Desk.places c.args.desk.now t)) (c.in-Ok.ensures.told t))

pub returns-in-Err-Failed-clause-told : goal.returns-in-Err-Failed-clause-told
returns-in-Err-Failed-clause-told g c = λ t f r. follow_failed _ _ _ f _ _ _ _ c.in-Err-Failed.ensures.err
    (rw c.in-Err-Failed.field-0-is at (c.in-Err-Failed.ensures.told t))

pub returns-in-Err-Memory-clause-told : goal.returns-in-Err-Memory-clause-told
returns-in-Err-Memory-clause-told g c = λ t f r. follow_refused _ _ _ f _ _ _ _ c.in-Err-Memory.ensures.err
    (rw c.in-Err-Memory.field-0-is at (c.in-Err-Memory.ensures.told t))

pub returns-clause-told : goal.returns-clause-told
returns-clause-told g c = λ t f r.
    follow_read _ _ _ f _ _ _ (g.D.Desk.told c.open.new.self) _ _ c.in-Ok.ensures.number
    (sym (g.met.D.Desk.places c.args.desk.now t)) (c.read_log.ensures.inputs ∙ c.in-Ok.ensures.ok) (c.in-Ok.ensures.told t) _
    (c.read_log.ensures.told t f r)
