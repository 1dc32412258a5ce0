use Rattle.std.proofs.Common.{◌≡◌, subst, ap}
use Rattle.std.proofs.lemmas.Result.{IfOk-weaker}
use Rattle.crs_log.specs.ItemOf.{Faulty, what_of}
use Rattle.crs_log.specs.Run as run
use Rattle.crs_log.specs.Run.{Outcome}
use Rattle.crs_log.proofs.ReadLaw.{read_is}
use Rattle.crs_layers.specs.Runs.{after_what}
use Rattle.crs_session.specs.Session.{Brings, BringsAll, full_in}
use Rattle.crs_frames.specs.Frames.{log_setting}
use Rattle.crs_frames.proofs.Results.{both_ok}
use Rattle.crs_session.proofs.Accepting.{refused_brings}
use Rattle.crs_session.proofs.step.take_other.Goals as goal

pub take_item-requires-clause-read : goal.take_item-requires-clause-read
take_item-requires-clause-read c = read_is c.args.line.now c.in-Ok.item c.in-Ok.ensures.exact

pub returns-in-Ok : goal.returns-in-Ok
returns-in-Ok c =
    let x = c.args.session.now in
    IfOk-weaker c.take_item.result _
    (λ _. BringsAll x c.take_item.new.session c.args.number (λ f s. after_what (log_setting f) (full_in f s) s.log (what_of c.args.line.now)) c.args.out.now c.take_item.new.out)
    (λ _ h f s r. subst (λ (a : run.State × Outcome). Brings f x.layers.focus x.counts c.take_item.new.session c.args.number s a c.args.out.now c.take_item.new.out)
    (ap (after_what (log_setting f) (full_in f s) s.log) c.in-Ok.ensures.exact) (h f s r))
    c.take_item.ensures

pub returns-in-Err-Form : goal.returns-in-Err-Form
returns-in-Err-Form c =
    let x = c.args.session.now in
    let faulty : what_of c.args.line.now ≡ Faulty = rw c.in-Err-Form.field-0-is at c.in-Err-Form.ensures.err in
    both_ok c.refuse.result _ _
    (BringsAll x c.refuse.new.session c.args.number (λ f s. after_what (log_setting f) (full_in f s) s.log (what_of c.args.line.now)) c.args.out.now c.refuse.new.out)
    c.refuse.ensures.written c.refuse.ensures.noted
    (λ w m f s r. refused_brings f x s r c.args.number run.Form (after_what (log_setting f) (full_in f s) s.log (what_of c.args.line.now)) c.refuse.new.session c.args.out.now c.refuse.new.out
    (ap (after_what (log_setting f) (full_in f s) s.log) faulty) m w)
