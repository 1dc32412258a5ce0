use Rattle.std.proofs.Common.{sym, subst, ap, refl, ◌∙◌}
use Rattle.std.proofs.lemmas.Result.{IfOk-weaker}
use Rattle.crs_log.specs.declared.items.Item.TheVariants.{Event as EventItem}
use Rattle.crs_log.specs.ItemOf.{Is, what_of}
use Rattle.crs_log.specs.Run as run
use Rattle.crs_log.specs.Run.{Outcome}
use Rattle.crs_log.specs.SeenItems.{happens_seen}
use Rattle.crs_log.proofs.ReadLaw.{read_is}
use Rattle.crs_layers.specs.Runs.{after_what}
use Rattle.crs_session.specs.Session.{Brings, BringsAll, full_in}
use Rattle.crs_frames.specs.Frames.{log_setting}
use Rattle.crs_frames.proofs.Results.{both_ok}
use Rattle.crs_session.proofs.Accepting.{refused_brings}
use Rattle.crs_session.proofs.Ordering.{in_order, out_of_order}
use Rattle.crs_session.proofs.step.take_happening.Goals as goal

pub take_event-requires-clause-item : goal.take_event-requires-clause-item
take_event-requires-clause-item c = (read_is c.args.line.now (EventItem c.args.raw.now) (sym c.requires.read)).1

pub returns : goal.returns
returns c =
    let x = c.args.session.now in
    let line = c.args.line.now in
    IfOk-weaker c.take_event.result _
    (λ _. BringsAll x c.take_event.new.session c.args.number (λ f s. after_what (log_setting f) (full_in f s) s.log (what_of line)) c.args.out.now c.take_event.new.out)
    (λ _ h f s r.
    subst (λ (a : run.State × Outcome). Brings f x.layers.focus x.counts c.take_event.new.session c.args.number s a c.args.out.now c.take_event.new.out)
    (in_order (log_setting f) (full_in f s) s.log (Is (happens_seen line c.args.raw.now)) refl (r.ended ∙ c.if-session.false) (λ e. cc) ∙ sym (ap (after_what (log_setting f) (full_in f s) s.log) c.requires.read))
    (h f s r))
    c.take_event.ensures

pub returns-then-session : goal.returns-then-session
returns-then-session c =
    let x = c.args.session.now in
    let line = c.args.line.now in
    both_ok c.refuse.result _ _
    (BringsAll x c.refuse.new.session c.args.number (λ f s. after_what (log_setting f) (full_in f s) s.log (what_of line)) c.args.out.now c.refuse.new.out)
    c.refuse.ensures.written c.refuse.ensures.noted
    (λ written noted f s r.
    refused_brings f x s r c.args.number run.Order (after_what (log_setting f) (full_in f s) s.log (what_of line)) c.refuse.new.session c.args.out.now c.refuse.new.out
    (ap (after_what (log_setting f) (full_in f s) s.log) c.requires.read ∙ out_of_order (log_setting f) (full_in f s) s.log (Is (happens_seen line c.args.raw.now)) refl (r.ended ∙ c.if-session.true) (λ e. cc)) noted written)
