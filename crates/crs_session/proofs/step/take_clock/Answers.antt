use Rattle.std.proofs.Common.{◌≡◌, ◌∙◌}
use Rattle.std.specs.Prelude.{OnOk}
use Rattle.crs_log.specs.Items.{Clock}
use Rattle.crs_log.specs.Run as run
use Rattle.crs_report.specs.OutputLines.{refusal_line}
use Rattle.crs_layers.specs.Runs.{after_ordered}
use Rattle.crs_session.specs.Session.{BringsAll, full_in}
use Rattle.crs_frames.specs.Frames.{log_setting, fault_of}
use Rattle.crs_session.specs.Written.{with_text}
use Rattle.crs_session.proofs.Marking.{clock_brings, clock_printable, back_brings}
use Rattle.crs_session.proofs.ReadLayers.{symbols_known}
use Rattle.crs_frames.proofs.Results.{both_ok}
use Rattle.crs_session.proofs.step.take_clock.Goals as goal

pub clock-requires-clause-known : goal.clock-requires-clause-known
clock-requires-clause-known g c = symbols_known c.requires.ready.0 c.args.session.now c.requires.ready.1 c.requires.ready.2

pub write_mark-requires : goal.write_mark-requires
write_mark-requires g c =
    let r = c.requires.ready.2 in
    record { printable = clock_printable c.requires.ready.0 c.args.session.now c.requires.ready.1 r (r.ended ∙ c.requires.open) c.clock.new.self c.in-Ok.marked c.args.number c.in-Ok.ensures.goes_on c.args.t c.requires.date c.in-Ok.ensures.stands }

pub returns-in-Ok : goal.returns-in-Ok
returns-in-Ok g c =
    let x = c.args.session.now in
    both_ok c.write_mark.result _ _
    (BringsAll x c.write_mark.new.session c.args.number (λ f s. after_ordered (log_setting f) (full_in f s) s.log (Clock c.args.t)) c.args.out.now c.write_mark.new.out)
    c.write_mark.ensures.written c.write_mark.ensures.counted
    (λ w k f s r. rw k (clock_brings f x s r (r.ended ∙ c.requires.open) c.clock.new.self c.in-Ok.marked c.args.number c.in-Ok.ensures.goes_on c.args.t c.requires.date c.in-Ok.ensures.stands c.args.out.now c.write_mark.new.out w))

pub returns-in-Err-Back : goal.returns-in-Err-Back
returns-in-Err-Back g c =
    let x = c.args.session.now in
    let t = c.in-Err-Back.t in
    let last = c.in-Err-Back.last in
    let written : OnOk c.refuse.result
    (c.refuse.new.out ≡ with_text c.args.out.now (refusal_line c.args.number (fault_of (run.Back t last)))) =
    rw (← c.in-Err-Back.t-is, ← c.in-Err-Back.last-is) c.refuse.ensures.written in
    back_brings c.refuse.result x c.clock.new.self c.refuse.new.session c.args.t c.args.number t last c.args.out.now c.refuse.new.out
    c.requires.ready.2.stand.running (rw c.in-Err-Back.field-0-is at c.in-Err-Back.ensures.refused) c.in-Err-Back.ensures.unchanged written c.refuse.ensures.noted
