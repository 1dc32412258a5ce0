use Rattle.std.proofs.Common.{◌≡◌, ◌∙◌, ap, arith}
use Rattle.std.proofs.lemmas.Bool.{le-ltb}
use Rattle.std.proofs.lemmas.List.{length-map}
use Rattle.crs_log.proofs.Numbered.{named_fits}
use Rattle.crs_log.specs.Items.{Happens}
use Rattle.crs_log.specs.Known.{Named, entry_of_event}
use Rattle.crs_log.specs.Run as run
use Rattle.crs_log.specs.SeenItems.{event_seen, text_of}
use Rattle.crs_feeds.specs.Merged.{new_feed}
use Rattle.std.specs.Prelude.{get_or}
use Rattle.crs_rounds.proofs.MergedEvents.{named_is, verdict_is, full_is, values_is, accept_brings}
use Rattle.crs_rounds.proofs.MergedSteps.{refuse_item}
use Rattle.crs_frames.proofs.Results.{not_true}
use Rattle.crs_rounds.proofs.merging.accept_event.Goals as goal

pub make_named-requires-clause-arity : goal.make_named-requires-clause-arity
make_named-requires-clause-arity c =
    let x = c.args.session.now in
    let r = c.requires.ready.2 in
    let few = (named_fits x.symbols.texts (event_seen c.args.line.now c.args.raw.now) x.feeds.engine.plans.names 0 c.requires.named.0 r.models.names_in r.models.arities c.requires.named.1).1 in
    omega (arith, few, length-map c.args.raw.now.args (text_of c.args.line.now))

pub returns-then-is_full : goal.returns-then-is_full
returns-then-is_full c =
    let x = c.args.session.now in
    let n = c.args.origin.feed in
    let e = event_seen c.args.line.now c.args.raw.now in
    let fine = le-ltb e.date (get_or x.feeds.feeds n new_feed).horizon c.requires.due in
    refuse_item c.refuse.result x c.refuse.new.session c.args.origin (Happens e) (run.Full x.entries) c.args.out.now.items c.refuse.new.out.items c.requires.feed
    c.refuse.ensures.written c.refuse.ensures.noted
    (λ g is f ps r. verdict_is f x ps r n c.requires.feed c.requires.going e g is (Named c.requires.named.0) fine (named_is f x r.models.names e c.requires.named.0 c.requires.named.1)
    ∙ full_is f x ps r n c.requires.feed c.requires.going e g is (c.is_full.ensures.0 c.if-is_full.true))

pub returns-in-Err-Values : goal.returns-in-Err-Values
returns-in-Err-Values c =
    let x = c.args.session.now in
    let n = c.args.origin.feed in
    let e = event_seen c.args.line.now c.args.raw.now in
    let r = c.refuse-in-Err-Values in
    let fine = le-ltb e.date (get_or x.feeds.feeds n new_feed).horizon c.requires.due in
    let why = rw c.in-Err-Values.field-0-is at c.in-Err-Values.ensures.err in
    refuse_item r.result x r.new.session c.args.origin (Happens e) (run.Values c.in-Err-Values.limit) c.args.out.now.items r.new.out.items c.requires.feed
    r.ensures.written (rw why.1 at r.ensures.noted)
    (λ g is f ps k. verdict_is f x ps k n c.requires.feed c.requires.going e g is (Named c.requires.named.0) fine (named_is f x k.models.names e c.requires.named.0 c.requires.named.1)
    ∙ values_is f x ps k n c.requires.feed c.requires.going e g is (λ q. not_true c.is_full.result c.if-is_full.false (c.is_full.ensures.1 q)) c.in-Err-Values.limit why.0 why.2)

pub returns-in-Ok-accept : goal.returns-in-Ok-accept
returns-in-Ok-accept c = λ g number is f ps r.
    let x = c.args.session.now in
    let n = c.args.origin.feed in
    let e = event_seen c.args.line.now c.args.raw.now in
    let fine = le-ltb e.date (get_or x.feeds.feeds n new_feed).horizon c.requires.due in
    let arrival : c.accepted-arrival.result ≡ x.feeds.engine.accepted = c.accepted-arrival.ensures in
    accept_brings f x ps r n c.requires.feed c.requires.going e g is (λ q. not_true c.is_full.result c.if-is_full.false (c.is_full.ensures.1 q))
    c.requires.named.0 fine (named_is f x r.models.names e c.requires.named.0 c.requires.named.1) c.accept.new.self c.make_named.new.symbols c.in-Ok.entry c.in-Ok.ensures.texts c.in-Ok.ensures.limit
    c.in-Ok.ensures.room (c.in-Ok.ensures.entry ∙ ap (λ k. entry_of_event k e) arrival) c.in-Ok.ensures.within
    c.in-Ok-accept.ensures.feeds c.in-Ok-accept.ensures.accepted c.in-Ok-accept.ensures.behind c.args.out.now.items
