use Rattle.std.proofs.Common.{◌≡◌, ◌∙◌, ◌++◌, ap, get_or, nat_lt, true, subst}
use Rattle.std.specs.Prelude.{OnOk}
use Rattle.std.proofs.lemmas.Result.{IfOk-weaker}
use Rattle.crs_engine.specs.declared.refused.Refused.TheVariants.{Stopped, Back}
use Rattle.crs_feeds.specs.Merged.{new_feed}
use Rattle.crs_feeds.specs.States.{FeedsState}
use Rattle.crs_log.specs.Items.{Clock}
use Rattle.crs_log.specs.Run as run
use Rattle.crs_model.specs.declared.plan.Plans.{Plans}
use Rattle.crs_rounds.specs.MergedSession.{BringsItem, rise_lines}
use Rattle.crs_rounds.specs.PairTexts.{feed_refusal}
use Rattle.crs_frames.specs.Frames.{fault_of}
use Rattle.crs_frames.proofs.Clocks.{fine_by, same_by}
use Rattle.crs_rounds.proofs.MergedSteps.{clock_printable, clock_brings, back_is, back_by, refuse_item}
use Rattle.crs_rounds.proofs.merging.take_clock.Goals as goal

pub push_rise-requires : goal.push_rise-requires
push_rise-requires g c =
    let x = c.args.session.now in
    let own = get_or x.feeds.feeds c.args.origin.feed new_feed in
    let m = c.in-Ok.ensures.moved in
    let fine = fine_by x.feeds.engine.stopped (nat_lt c.args.t own.last) Stopped (Back c.args.t own.last) c.in-Ok.rise c.requires.ready.2.stand.run.running c.in-Ok.ensures.refused in
    rw (c.plans.ensures) (clock_printable c.requires.ready.0 x c.requires.ready.1 c.requires.ready.2 c.args.origin.feed c.requires.feed c.requires.going
    c.args.t c.requires.said.0 c.clock.new.self c.in-Ok.rise fine c.requires.said.1 m.engine.same_plans c.in-Ok.ensures.behind)

pub returns-in-Ok : goal.returns-in-Ok
returns-in-Ok g c =
    let x = c.args.session.now in
    let own = get_or x.feeds.feeds c.args.origin.feed new_feed in
    let y = record x { feeds = c.clock.new.self } in
    let m = c.in-Ok.ensures.moved in
    let out = c.args.out.now.items in
    let fine = fine_by x.feeds.engine.stopped (nat_lt c.args.t own.last) Stopped (Back c.args.t own.last) c.in-Ok.rise c.requires.ready.2.stand.run.running c.in-Ok.ensures.refused in
    IfOk-weaker c.push_rise.result
    (λ _. c.push_rise.new.out.items ≡ out ++ rise_lines c.plans.result.now x.symbols.texts c.in-Ok.rise)
    (λ _. BringsItem x y c.args.origin (Clock c.args.t) out c.push_rise.new.out.items)
    (λ _ h line number is f ps r.
    clock_brings f x ps r c.args.origin.feed c.requires.feed c.requires.going c.args.t line c.clock.new.self c.in-Ok.rise out c.push_rise.new.out.items fine is
    m.engine.same_plans m.feeds c.in-Ok.ensures.behind
    (h ∙ ap (λ (q : Plans). out ++ rise_lines q x.symbols.texts c.in-Ok.rise) c.plans.ensures))
    c.push_rise.ensures

pub returns-in-Err-Back : goal.returns-in-Err-Back
returns-in-Err-Back g c =
    let x = c.args.session.now in
    let own = get_or x.feeds.feeds c.args.origin.feed new_feed in
    let t = c.in-Err-Back.t in
    let last = c.in-Err-Back.last in
    let out = c.args.out.now.items in
    let k = back_by _ x.feeds.engine.stopped (nat_lt c.args.t own.last) c.args.t own.last t last c.requires.ready.2.stand.run.running
    (rw c.in-Err-Back.field-0-is at c.in-Err-Back.ensures.refused) in
    let stays : c.clock.new.self ≡ x.feeds = same_by x.feeds.engine.stopped (nat_lt c.args.t own.last) (Back c.args.t own.last) (c.clock.new.self ≡ x.feeds) k.0 c.in-Err-Back.ensures.unchanged in
    let written : OnOk c.refuse.result (c.refuse.new.out.items ≡ out ++ feed_refusal c.args.origin.feed c.args.origin.number (fault_of (run.Back t last))) =
    rw (← c.in-Err-Back.t-is, ← c.in-Err-Back.last-is) c.refuse.ensures.written in
    let noted : OnOk c.refuse.result (c.refuse.new.session ≡ record x { refused = true }) =
    subst (λ (fs : FeedsState). OnOk c.refuse.result (c.refuse.new.session ≡ record x { feeds = fs; refused = true })) stays c.refuse.ensures.noted in
    refuse_item c.refuse.result x c.refuse.new.session c.args.origin (Clock c.args.t) (run.Back t last) out c.refuse.new.out.items c.requires.feed written noted
    (λ line is f ps r. back_is f x ps r c.args.origin.feed c.requires.feed c.requires.going c.args.t t last line k.0 k.1 k.2 is)
