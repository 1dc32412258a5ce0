use Rattle.std.proofs.Common.{sym, subst, ◌∙◌}
use Rattle.std.proofs.lemmas.Result.{IfOk-weaker}
use Rattle.crs_log.specs.Run as run
use Rattle.crs_log.specs.Run.{Outcome}
use Rattle.crs_log.specs.SeenItems.{what_seen}
use Rattle.crs_layers.specs.Runs.{after_what}
use Rattle.crs_session.specs.Session.{Brings, BringsAll, full_in}
use Rattle.crs_frames.specs.Frames.{log_setting}
use Rattle.crs_session.proofs.Accepting.{refused_brings, passed_brings}
use Rattle.crs_session.proofs.Ordering.{in_order, out_of_order, blank_passed}
use Rattle.crs_frames.proofs.Items.{not_faulty}
use Rattle.crs_frames.proofs.Results.{both_ok}
use Rattle.crs_session.proofs.step.take_item.Goals as goal

pub returns : goal.returns
returns c =
    let x = c.args.session.now in
    let w = what_seen c.args.line.now c.args.item.now in
    IfOk-weaker c.take_ordered.result _
    (λ _. BringsAll x c.take_ordered.new.session c.args.number (λ f s. after_what (log_setting f) (full_in f s) s.log w) c.args.out.now c.take_ordered.new.out)
    (λ _ h f s r.
    subst (λ (a : run.State × Outcome). Brings f x.layers.focus x.counts c.take_ordered.new.session c.args.number
    s a c.args.out.now c.take_ordered.new.out)
    (in_order (log_setting f) (full_in f s) s.log w (sym (c.is_blank.ensures c.args.line.now) ∙ c.if-is_blank.false) (r.ended ∙ c.if-session.false) (not_faulty c.args.line.now c.args.item.now))
    (h f s r))
    c.take_ordered.ensures

pub returns-then-is_blank : goal.returns-then-is_blank
returns-then-is_blank c = λ f s r.
    let w = what_seen c.args.line.now c.args.item.now in
    passed_brings f c.args.session.now s r c.args.number (after_what (log_setting f) (full_in f s) s.log w) c.args.out.now
    (blank_passed (log_setting f) (full_in f s) s.log w (sym (c.is_blank.ensures c.args.line.now) ∙ c.if-is_blank.true))

pub returns-then-session : goal.returns-then-session
returns-then-session c =
    let x = c.args.session.now in
    let w = what_seen c.args.line.now c.args.item.now in
    both_ok c.refuse.result _ _
    (BringsAll x c.refuse.new.session c.args.number (λ f s. after_what (log_setting f) (full_in f s) s.log w) c.args.out.now c.refuse.new.out)
    c.refuse.ensures.written c.refuse.ensures.noted
    (λ written noted f s r.
    refused_brings f x s r c.args.number run.Order (after_what (log_setting f) (full_in f s) s.log w) c.refuse.new.session c.args.out.now c.refuse.new.out
    (out_of_order (log_setting f) (full_in f s) s.log w (sym (c.is_blank.ensures c.args.line.now) ∙ c.if-is_blank.false) (r.ended ∙ c.if-session.true) (not_faulty c.args.line.now c.args.item.now)) noted written)
