use Rattle.std.proofs.Common.{◌∙◌}
use Rattle.crs_log.specs.Items.{Finish}
use Rattle.crs_layers.specs.Runs.{after_ordered}
use Rattle.crs_session.specs.Session.{BringsAll, full_in}
use Rattle.crs_frames.specs.Frames.{log_setting}
use Rattle.crs_session.proofs.Marking.{end_brings, end_printable}
use Rattle.crs_session.proofs.ReadLayers.{symbols_known}
use Rattle.crs_frames.proofs.Results.{both_ok}
use Rattle.crs_session.proofs.step.take_end.Goals as goal

pub finish-requires : goal.finish-requires
finish-requires g c = record { known = symbols_known c.requires.ready.0 c.args.session.now c.requires.ready.1 c.requires.ready.2 }

pub write_mark-requires : goal.write_mark-requires
write_mark-requires g c =
    let r = c.requires.ready.2 in
    record { printable = end_printable c.requires.ready.0 c.args.session.now c.requires.ready.1 r (r.ended ∙ c.requires.open) c.finish.new.self c.in-Ok.marked c.args.number c.in-Ok.ensures.goes_on c.in-Ok.ensures.stands }

pub returns-in-Ok : goal.returns-in-Ok
returns-in-Ok g c =
    let x = c.args.session.now in
    both_ok c.write_mark.result _ _
    (BringsAll x c.write_mark.new.session c.args.number (λ f s. after_ordered (log_setting f) (full_in f s) s.log Finish) c.args.out.now c.write_mark.new.out)
    c.write_mark.ensures.written c.write_mark.ensures.counted
    (λ w k f s r. rw k (end_brings f x s r (r.ended ∙ c.requires.open) c.finish.new.self c.in-Ok.marked c.args.number c.in-Ok.ensures.goes_on c.in-Ok.ensures.stands c.args.out.now c.write_mark.new.out w))
