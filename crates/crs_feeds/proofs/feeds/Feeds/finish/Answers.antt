use Rattle.std.proofs.Common.{◌≡◌, ◌≤◌, ◌<◌, ◌∙◌, false, List, length, get_or, set, ap, subst, sym}
use Rattle.std.specs.Prelude.{IfOk}
use Rattle.crs_feeds.specs.declared.feed.Feed.{Feed}
use Rattle.crs_log.specs.Items.{Finish}
use Rattle.crs_feeds.specs.Merged.{new_feed, common, closed}
use Rattle.crs_feeds.specs.States.{FeedsState, HasRisen}
use Rattle.crs_feeds.specs.Standing.{TakeMark}
use Rattle.crs_feeds.proofs.Horizons.{held_by, later_by, low_at, read_at}
use Rattle.crs_feeds.proofs.Standing.{end_taken}
use Rattle.crs_feeds.proofs.feeds.Feeds.finish.Goals as goal

pub has_stopped-requires : goal.has_stopped-requires
has_stopped-requires g c =
    let s : FeedsState = record { engine = c.self.inside.engine; feeds = c.self.inside.feeds.items } in
    let number = subst (λ (x : FeedsState). c.args.feed < length x.feeds) (sym c.self.view_is) c.requires.number in
    λ r. held_by s c.args.feed c.index-clocks.result.now c.self.invariant number c.index-clocks.ensures r

pub follow-requires-clause-later : goal.follow-requires-clause-later
follow-requires-clause-later g c =
    let s : FeedsState = record { engine = c.self.inside.engine; feeds = c.self.inside.feeds.items } in
    let number = subst (λ (x : FeedsState). c.args.feed < length x.feeds) (sym c.self.view_is) c.requires.number in
    let f = c.index-clocks.result.now in
    let up : f.horizon ≤ c.closed.result.horizon =
    subst (λ (d : Feed). f.horizon ≤ d.horizon) (sym c.closed.ensures) (low_at s c.args.feed f c.self.invariant number c.index-clocks.ensures) in
    subst (λ (fs : List Feed). c.self.inside.engine.horizon ≤ common fs) (sym c.as_slice.ensures.value)
    (later_by s c.args.feed f c.closed.result c.self.invariant number c.index-clocks.ensures (sym c.has_stopped.ensures ∙ c.if-has_stopped.false) up)

pub returns-clause-behind : goal.returns-clause-behind
returns-clause-behind g c =
    let s : FeedsState = record { engine = c.self.inside.engine; feeds = c.self.inside.feeds.items } in
    let n = c.args.feed in
    let number = subst (λ (x : FeedsState). n < length x.feeds) (sym c.self.view_is) c.requires.number in
    let still = subst (λ (x : FeedsState). (get_or x.feeds n new_feed).ended ≡ false) (sym c.self.view_is) c.requires.open in
    let here = read_at s.feeds n c.index-clocks.result.now number c.index-clocks.ensures in
    let own = get_or s.feeds n new_feed in
    let new : FeedsState = record { engine = c.follow.new.engine; feeds = set s.feeds n c.closed.result } in
    let clocks : new.feeds ≡ set s.feeds n (closed own) = ap (set s.feeds n) (c.closed.ensures ∙ ap closed here) in
    let risen = subst (λ (fs : List Feed). IfOk c.follow.result (HasRisen s.engine new.engine fs)) c.as_slice.ensures.value c.follow.ensures.risen in
    subst (λ (x : FeedsState). IfOk c.follow.result (TakeMark x new n Finish)) c.self.view_is
    (end_taken s new n number still clocks c.follow.result c.follow.ensures.raised c.follow.ensures.same risen)
