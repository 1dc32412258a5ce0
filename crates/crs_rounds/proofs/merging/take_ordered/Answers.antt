use Rattle.std.proofs.Common.{◌≡◌, ◌∙◌, ap, sym, refl, get_or}
use Rattle.std.proofs.lemmas.Result.{IfOk-weaker}
use Rattle.crs_log.specs.ItemOf.{Is, Empty, what_of}
use Rattle.crs_log.specs.Items.{Delay}
use Rattle.crs_log.specs.Reading.{Plain}
use Rattle.crs_log.specs.Run.{after_what}
use Rattle.crs_log.specs.SeenItems.{what_seen}
use Rattle.crs_feeds.specs.Merged.{new_feed, seen_by}
use Rattle.crs_rounds.specs.MergedSession.{BringsLine, run_at}
use Rattle.crs_frames.specs.Frames.{log_setting}
use Rattle.crs_rounds.proofs.MergedSteps.{passed_brings, delay_brings}
use Rattle.crs_rounds.proofs.merging.take_ordered.Goals as goal

pub take_clock-requires-clause-said : goal.take_clock-requires-clause-said
take_clock-requires-clause-said c = (Plain c.args.origin.number c.args.line.now, sym c.requires.exact ∙ ap (what_seen c.args.line.now) c.in-Clock.is)

pub take_end-requires-clause-said : goal.take_end-requires-clause-said
take_end-requires-clause-said c = (Plain c.args.origin.number c.args.line.now, sym c.requires.exact ∙ ap (what_seen c.args.line.now) c.in-Finish.is)

pub returns-in-Blank : goal.returns-in-Blank
returns-in-Blank c = λ f ps r.
    let x = c.args.session.now in
    let n = c.args.origin.feed in
    let is : what_of c.args.line.now ≡ Empty = sym c.requires.exact ∙ ap (what_seen c.args.line.now) c.in-Blank.is in
    passed_brings f x ps r n c.requires.feed (Plain c.args.origin.number c.args.line.now) c.args.out.now.items
    (ap (after_what (log_setting f) (seen_by (run_at f x ps) (get_or x.feeds.feeds n new_feed))) is)

pub returns-in-Delay : goal.returns-in-Delay
returns-in-Delay c = λ f ps r.
    let x = c.args.session.now in
    let n = c.args.origin.feed in
    let d = c.in-Delay.delay in
    let is : what_of c.args.line.now ≡ Is (Delay d) = sym c.requires.exact ∙ ap (what_seen c.args.line.now) c.in-Delay.is in
    rw (c.set_delay.ensures.value) (delay_brings f x ps r n c.requires.feed c.requires.going d (Plain c.args.origin.number c.args.line.now) c.args.out.now.items is
    (rw (c.set_delay.ensures.value) at c.set_delay.ensures.behind))

pub returns-in-Clock : goal.returns-in-Clock
returns-in-Clock c =
    let line = Plain c.args.origin.number c.args.line.now in
    IfOk-weaker c.take_clock.result _
    (λ _. BringsLine c.args.session.now c.take_clock.new.session c.args.origin.feed line c.args.out.now.items c.take_clock.new.out.items)
    (λ _ h f ps r. h line refl (sym c.requires.exact ∙ ap (what_seen c.args.line.now) c.in-Clock.is) f ps r)
    c.take_clock.ensures

pub returns-in-Finish : goal.returns-in-Finish
returns-in-Finish c =
    let line = Plain c.args.origin.number c.args.line.now in
    IfOk-weaker c.take_end.result _
    (λ _. BringsLine c.args.session.now c.take_end.new.session c.args.origin.feed line c.args.out.now.items c.take_end.new.out.items)
    (λ _ h f ps r. h line refl (sym c.requires.exact ∙ ap (what_seen c.args.line.now) c.in-Finish.is) f ps r)
    c.take_end.ensures

pub returns-in-Event : goal.returns-in-Event
returns-in-Event c =
    let line = Plain c.args.origin.number c.args.line.now in
    IfOk-weaker c.take_event.result _
    (λ _. BringsLine c.args.session.now c.take_event.new.session c.args.origin.feed line c.args.out.now.items c.take_event.new.out.items)
    (λ _ h f ps r. h line refl (sym c.requires.exact ∙ ap (what_seen c.args.line.now) c.in-Event.is) f ps r)
    c.take_event.ensures
