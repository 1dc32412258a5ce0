use Rattle.std.proofs.Common.{◌≡◌}
use Rattle.std.specs.Prelude.{OnOk, ◌++◌, get_or}
use Rattle.crs_log.specs.Items.{Happens}
use Rattle.crs_log.specs.Known.{Other, BadArity, BadValue}
use Rattle.crs_log.specs.Run as run
use Rattle.crs_log.specs.SeenItems.{event_seen}
use Rattle.crs_feeds.specs.Merged.{new_feed}
use Rattle.crs_feeds.proofs.Horizons.{in_time}
use Rattle.crs_rounds.specs.PairTexts.{feed_refusal}
use Rattle.crs_frames.specs.Frames.{fault_of}
use Rattle.crs_rounds.proofs.MergedEvents.{late_is, not_late, verdict_is, known_is}
use Rattle.crs_rounds.proofs.MergedSteps.{passed_brings, refuse_item}
use Rattle.crs_rounds.proofs.merging.take_event.Goals as goal

pub accept_event-requires-clause-due : goal.accept_event-requires-clause-due
accept_event-requires-clause-due c =
    in_time c.args.session.now.feeds (get_or c.args.session.now.feeds.feeds c.args.origin.feed new_feed) c.args.raw.now.date c.in-Ok.ensures

pub returns-in-Err-Late : goal.returns-in-Err-Late
returns-in-Err-Late c =
    let x = c.args.session.now in
    let n = c.args.origin.feed in
    let e = event_seen c.args.line.now c.args.raw.now in
    let out = c.args.out.now.items in
    let written : OnOk c.refuse.result (c.refuse.new.out.items ≡ out ++ feed_refusal n c.args.origin.number (fault_of (run.Late c.in-Err-Late.date c.in-Err-Late.horizon))) =
    rw (← c.in-Err-Late.date-is, ← c.in-Err-Late.horizon-is) c.refuse.ensures.written in
    refuse_item c.refuse.result x c.refuse.new.session c.args.origin (Happens e) (run.Late c.in-Err-Late.date c.in-Err-Late.horizon) out c.refuse.new.out.items c.requires.feed
    written c.refuse.ensures.noted
    (λ g is f ps r. late_is f x ps r n c.requires.feed c.requires.going e g is c.in-Err-Late.date c.in-Err-Late.horizon (rw c.in-Err-Late.field-0-is at c.in-Err-Late.ensures))

pub returns-in-Ok-Other : goal.returns-in-Ok-Other
returns-in-Ok-Other c = λ g number is f ps r.
    let x = c.args.session.now in
    let n = c.args.origin.feed in
    let e = event_seen c.args.line.now c.args.raw.now in
    passed_brings f x ps r n c.requires.feed g c.args.out.now.items
    (verdict_is f x ps r n c.requires.feed c.requires.going e g is Other (not_late f x ps r n c.requires.feed c.requires.going e g is c.in-Ok.ensures)
    (known_is f x r.models.names e c.plans.result.now Other c.plans.ensures (rw c.in-Ok-Other.field-0-is at c.in-Ok-Other.ensures.says)))

pub returns-in-Err-Arity : goal.returns-in-Err-Arity
returns-in-Err-Arity c =
    let x = c.args.session.now in
    let n = c.args.origin.feed in
    let e = event_seen c.args.line.now c.args.raw.now in
    let r = c.refuse-in-Err-Arity in
    refuse_item r.result x r.new.session c.args.origin (Happens e) run.Arity c.args.out.now.items r.new.out.items c.requires.feed r.ensures.written r.ensures.noted
    (λ g is f ps k. verdict_is f x ps k n c.requires.feed c.requires.going e g is BadArity (not_late f x ps k n c.requires.feed c.requires.going e g is c.in-Ok.ensures)
    (known_is f x k.models.names e c.plans.result.now BadArity c.plans.ensures (rw c.in-Err-Arity.field-0-is at c.in-Err-Arity.ensures.says)))

pub returns-in-Err-Value : goal.returns-in-Err-Value
returns-in-Err-Value c =
    let x = c.args.session.now in
    let n = c.args.origin.feed in
    let e = event_seen c.args.line.now c.args.raw.now in
    let r = c.refuse-in-Err-Value in
    refuse_item r.result x r.new.session c.args.origin (Happens e) run.Value c.args.out.now.items r.new.out.items c.requires.feed r.ensures.written r.ensures.noted
    (λ g is f ps k. verdict_is f x ps k n c.requires.feed c.requires.going e g is BadValue (not_late f x ps k n c.requires.feed c.requires.going e g is c.in-Ok.ensures)
    (known_is f x k.models.names e c.plans.result.now BadValue c.plans.ensures (rw c.in-Err-Value.field-0-is at c.in-Err-Value.ensures.says)))
