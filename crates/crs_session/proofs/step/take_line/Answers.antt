use Rattle.std.proofs.Common.{refl}
use Rattle.crs_log.specs.Reading.{Long}
use Rattle.crs_log.specs.Run as run
use Rattle.crs_layers.specs.Runs.{after_line}
use Rattle.crs_session.specs.Session.{full_in}
use Rattle.crs_frames.specs.Frames.{log_setting}
use Rattle.crs_session.proofs.Accepting.{refuse_brings}
use Rattle.crs_session.proofs.step.take_line.Goals as goal

pub returns-in-Long : goal.returns-in-Long
returns-in-Long c =
    let x = c.args.session.now in
    rw c.in-Long.is (refuse_brings c.refuse.result x c.refuse.new.session c.in-Long.number run.TooLong
    (λ f s. after_line (log_setting f) (full_in f s) s.log (Long c.in-Long.number))
    c.args.out.now c.refuse.new.out c.refuse.ensures.written c.refuse.ensures.noted (λ f s r. refl))
