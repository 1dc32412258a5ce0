use Rattle.std.proofs.Common.{◌≡◌}
use Rattle.std.specs.Prelude.{OnOk}
use Rattle.crs_report.specs.OutputLines.{refusal_line}
use Rattle.crs_log.specs.Items.{Happens}
use Rattle.crs_log.specs.Known.{Other, BadArity, BadValue}
use Rattle.crs_log.specs.Run as run
use Rattle.crs_log.specs.SeenItems.{event_seen}
use Rattle.crs_layers.specs.Runs.{after_ordered}
use Rattle.crs_session.specs.Session.{full_in}
use Rattle.crs_frames.specs.Frames.{log_setting, fault_of}
use Rattle.crs_session.specs.Written.{with_text}
use Rattle.crs_session.proofs.Accepting.{refuse_brings, passed_brings, late_is, verdict_is}
use Rattle.crs_session.proofs.step.take_event.Goals as goal

pub returns-in-Err-Late : goal.returns-in-Err-Late
returns-in-Err-Late c =
    let x = c.args.session.now in
    let e = event_seen c.args.line.now c.args.raw.now in
    let z : OnOk c.refuse.result (c.refuse.new.out ≡ with_text c.args.out.now (refusal_line c.args.number
    (fault_of (run.Late c.in-Err-Late.date c.in-Err-Late.horizon)))) = rw
    (← c.in-Err-Late.date-is, ← c.in-Err-Late.horizon-is) c.refuse.ensures.written in
    refuse_brings c.refuse.result x c.refuse.new.session c.args.number (run.Late c.in-Err-Late.date c.in-Err-Late.horizon)
    (λ f s. after_ordered (log_setting f) (full_in f s) s.log (Happens e))
    c.args.out.now c.refuse.new.out z c.refuse.ensures.noted
    (λ f s r. late_is f x s r e c.in-Err-Late.date c.in-Err-Late.horizon (rw c.in-Err-Late.field-0-is at c.in-Err-Late.ensures))

pub returns-in-Ok-Other : goal.returns-in-Ok-Other
returns-in-Ok-Other c = λ f s r.
    let x = c.args.session.now in
    let e = event_seen c.args.line.now c.args.raw.now in
    passed_brings f x s r c.args.number (after_ordered (log_setting f) (full_in f s) s.log (Happens e)) c.args.out.now
    (verdict_is f x s r e c.plans.result.now Other c.in-Ok.ensures c.plans.ensures
    (rw c.in-Ok-Other.field-0-is at c.in-Ok-Other.ensures.says))

pub returns-in-Err-Arity : goal.returns-in-Err-Arity
returns-in-Err-Arity c =
    let x = c.args.session.now in
    let e = event_seen c.args.line.now c.args.raw.now in
    let r = c.refuse-in-Err-Arity in
    refuse_brings r.result x r.new.session c.args.number run.Arity (λ f s. after_ordered (log_setting f) (full_in f s) s.log (Happens e))
    c.args.out.now r.new.out r.ensures.written r.ensures.noted
    (λ f s k. verdict_is f x s k e c.plans.result.now BadArity c.in-Ok.ensures c.plans.ensures
    (rw c.in-Err-Arity.field-0-is at c.in-Err-Arity.ensures.says))

pub returns-in-Err-Value : goal.returns-in-Err-Value
returns-in-Err-Value c =
    let x = c.args.session.now in
    let e = event_seen c.args.line.now c.args.raw.now in
    let r = c.refuse-in-Err-Value in
    refuse_brings r.result x r.new.session c.args.number run.Value (λ f s. after_ordered (log_setting f) (full_in f s) s.log (Happens e))
    c.args.out.now r.new.out r.ensures.written r.ensures.noted
    (λ f s k. verdict_is f x s k e c.plans.result.now BadValue c.in-Ok.ensures c.plans.ensures
    (rw c.in-Err-Value.field-0-is at c.in-Err-Value.ensures.says))
