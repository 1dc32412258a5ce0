use Rattle.std.proofs.Common.{refl, get_or}
use Rattle.crs_log.specs.SeenItems.{IsFaulty}
use Rattle.crs_log.specs.Reading.{Plain, Long}
use Rattle.crs_log.specs.Run as run
use Rattle.crs_feeds.specs.Merged.{new_feed, seen_by}
use Rattle.crs_rounds.specs.MergedSession.{run_at}
use Rattle.crs_frames.specs.Frames.{log_setting}
use Rattle.crs_rounds.proofs.MergedSteps.{refuse_brings}
use Rattle.crs_rounds.proofs.Ordering.{given_faulty}
use Rattle.crs_rounds.proofs.merging.take_feed_line.Goals as goal

pub returns-in-Long : goal.returns-in-Long
returns-in-Long c =
    let x = c.args.session.now in
    rw c.in-Long.is (refuse_brings c.refuse.result x c.refuse.new.session c.args.feed (Long c.in-Long.number) run.TooLong c.args.out.now.items c.refuse.new.out.items c.requires.feed
    c.refuse.ensures.written c.refuse.ensures.noted (λ f ps r. refl))

pub returns-in-Ok : goal.returns-in-Ok
returns-in-Ok c = rw c.in-Plain.is c.take_item.ensures

pub returns-in-Err-Form : goal.returns-in-Err-Form
returns-in-Err-Form c =
    let x = c.args.session.now in
    let r = c.refuse-in-Err-Form in
    let why : IsFaulty c.in-Plain.bytes.now = rw c.in-Err-Form.field-0-is at c.in-Err-Form.ensures.err in
    rw c.in-Plain.is (refuse_brings r.result x r.new.session c.args.feed (Plain c.in-Plain.number c.in-Plain.bytes.now) run.Form c.args.out.now.items r.new.out.items c.requires.feed
    r.ensures.written r.ensures.noted
    (λ f ps k. given_faulty (log_setting f) (seen_by (run_at f x ps) (get_or x.feeds.feeds c.args.feed new_feed)) c.in-Plain.number c.in-Plain.bytes.now why))
