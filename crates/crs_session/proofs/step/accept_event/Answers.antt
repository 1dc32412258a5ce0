use Rattle.std.proofs.Common.{◌≡◌, ◌∙◌, sym, ap, arith}
use Rattle.std.proofs.lemmas.List.{length-map}
use Rattle.crs_log.proofs.Numbered.{named_fits}
use Rattle.crs_log.specs.Items.{Happens}
use Rattle.crs_log.specs.Known.{entry_of_event}
use Rattle.crs_log.specs.Run as run
use Rattle.crs_log.specs.SeenItems.{event_seen, text_of}
use Rattle.crs_layers.specs.LayerStates.{accepted_in}
use Rattle.crs_layers.specs.Runs.{after_ordered}
use Rattle.crs_session.specs.Session.{BringsAll, full_in}
use Rattle.crs_session.specs.Tallies.{with_refused}
use Rattle.crs_frames.specs.Frames.{log_setting}
use Rattle.crs_session.proofs.Accepting.{refuse_brings, refused_brings, full_is, values_is, accept_brings}
use Rattle.crs_frames.proofs.Results.{both_ok}
use Rattle.crs_session.proofs.step.accept_event.Goals as goal

pub make_named-requires-clause-arity : goal.make_named-requires-clause-arity
make_named-requires-clause-arity c =
    let x = c.args.session.now in
    let r = c.requires.ready.2 in
    let few = (named_fits x.symbols.texts (event_seen c.args.line.now c.args.raw.now) x.layers.plans.names 0 c.requires.named.0 r.models.names_in r.models.arities c.requires.named.1).1 in
    omega (arith, few, length-map c.args.raw.now.args (text_of c.args.line.now))

pub returns-then-is_full : goal.returns-then-is_full
returns-then-is_full c =
    let x = c.args.session.now in
    let e = event_seen c.args.line.now c.args.raw.now in
    refuse_brings c.refuse.result x c.refuse.new.session c.args.number (run.Full x.entries) (λ f s. after_ordered (log_setting f) (full_in f s) s.log (Happens e))
    c.args.out.now c.refuse.new.out c.refuse.ensures.written c.refuse.ensures.noted
    (λ f s r. full_is f x s r e c.requires.named.0 c.requires.due c.requires.named.1 (sym c.is_full.ensures ∙ c.if-is_full.true))

pub returns-in-Err-Values : goal.returns-in-Err-Values
returns-in-Err-Values c =
    let x = c.args.session.now in
    let e = event_seen c.args.line.now c.args.raw.now in
    let limit = c.in-Err-Values.limit in
    let why = rw c.in-Err-Values.field-0-is at c.in-Err-Values.ensures.err in
    both_ok c.refuse-in-Err-Values.result _ _
    (BringsAll x c.refuse-in-Err-Values.new.session c.args.number (λ f s. after_ordered (log_setting f) (full_in f s) s.log (Happens e)) c.args.out.now c.refuse-in-Err-Values.new.out)
    c.refuse-in-Err-Values.ensures.written c.refuse-in-Err-Values.ensures.noted
    (λ w m f s r. refused_brings f x s r c.args.number (run.Values limit) (after_ordered (log_setting f) (full_in f s) s.log (Happens e)) c.refuse-in-Err-Values.new.session c.args.out.now c.refuse-in-Err-Values.new.out
    (values_is f x s r e c.requires.named.0 c.requires.due c.requires.named.1 (sym c.is_full.ensures ∙ c.if-is_full.false) limit why.0 why.2)
    (m ∙ ap (λ t. record x { symbols = t; counts = with_refused x.counts }) why.1) w)

pub returns-in-Ok-accept : goal.returns-in-Ok-accept
returns-in-Ok-accept c = λ f s r.
    let x = c.args.session.now in
    let e = event_seen c.args.line.now c.args.raw.now in
    let arrival : c.accepted-arrival.result ≡ accepted_in x.layers = c.accepted-arrival.ensures in
    accept_brings f x s r e c.requires.named.0 c.requires.due c.requires.named.1 (sym c.is_full.ensures ∙ c.if-is_full.false) c.requires.date
    c.args.number c.accept.new.self c.make_named.new.symbols c.in-Ok.entry c.in-Ok-accept.ensures.goes_on c.in-Ok-accept.ensures.stands
    c.in-Ok.ensures.texts c.in-Ok.ensures.limit (omega (arith, c.in-Ok.ensures.room))
    (c.in-Ok.ensures.entry ∙ ap (λ n. entry_of_event n e) arrival) c.in-Ok.ensures.within c.args.out.now
