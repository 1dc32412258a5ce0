use Rattle.std.proofs.Common.{ap}
use Rattle.crs_log.specs.SeenItems.{what_seen}
use Rattle.crs_session.specs.Session.{full_in, ordered_what}
use Rattle.crs_frames.specs.Frames.{log_setting}
use Rattle.crs_session.proofs.Accepting.{passed_brings, delay_brings}
use Rattle.crs_session.proofs.step.take_ordered.Goals as goal

pub returns-in-Blank : goal.returns-in-Blank
returns-in-Blank c = λ f s r.
    passed_brings f c.args.session.now s r c.args.number
    (ordered_what (log_setting f) (full_in f s) s.log (what_seen c.args.line.now c.args.item.now)) c.args.out.now
    (ap (λ i. ordered_what (log_setting f) (full_in f s) s.log (what_seen c.args.line.now i)) c.in-Blank.is)

pub returns-in-Delay : goal.returns-in-Delay
returns-in-Delay c = λ f s r. rw c.in-Delay.is
    (delay_brings f c.args.session.now s r c.in-Delay.delay c.args.number c.set_delay.new.self c.args.out.now c.set_delay.ensures.goes_on c.set_delay.ensures.stands)

pub returns-in-Clock : goal.returns-in-Clock
returns-in-Clock c = rw c.in-Clock.is c.take_clock.ensures

pub returns-in-Finish : goal.returns-in-Finish
returns-in-Finish c = rw c.in-Finish.is c.take_end.ensures
