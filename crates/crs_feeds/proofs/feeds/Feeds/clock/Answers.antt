use Rattle.std.proofs.Common.{◌≡◌, ◌≤◌, ◌<◌, ◌-◌, ◌∙◌, false, List, length, arith, get_or, set, ap, subst, sym}
use Rattle.std.specs.Prelude.{IfOk}
use Rattle.std.proofs.Math.Nat.{le-max_left}
use Rattle.crs_feeds.specs.declared.feed.Feed.{Feed}
use Rattle.crs_log.specs.Items.{Clock}
use Rattle.crs_feeds.specs.Merged.{new_feed, common, clocked}
use Rattle.crs_feeds.specs.States.{FeedsState, HasRisen}
use Rattle.crs_feeds.specs.Standing.{TakeMark}
use Rattle.crs_feeds.proofs.Horizons.{held_by, later_by, read_at}
use Rattle.crs_feeds.proofs.Standing.{clock_taken}
use Rattle.crs_feeds.proofs.feeds.Feeds.clock.Goals as goal

pub has_stopped-requires : goal.has_stopped-requires
has_stopped-requires g c =
    let s : FeedsState = record { engine = c.self.inside.engine; feeds = c.self.inside.feeds.items } in
    let number = subst (λ (x : FeedsState). c.args.feed < length x.feeds) (sym c.self.view_is) c.requires.number in
    λ r. held_by s c.args.feed c.index-clocks.result.now c.self.invariant number c.index-clocks.ensures r

pub follow-requires-clause-later : goal.follow-requires-clause-later
follow-requires-clause-later g c =
    let s : FeedsState = record { engine = c.self.inside.engine; feeds = c.self.inside.feeds.items } in
    let number = subst (λ (x : FeedsState). c.args.feed < length x.feeds) (sym c.self.view_is) c.requires.number in
    let f = c.index-clocks.result.now in
    let up : f.horizon ≤ c.clocked.result.horizon = subst (λ (d : Feed). f.horizon ≤ d.horizon) (sym c.clocked.ensures) (le-max_left f.horizon (c.args.t - f.delay)) in
    subst (λ (fs : List Feed). c.self.inside.engine.horizon ≤ common fs) (sym c.as_slice.ensures.value)
    (later_by s c.args.feed f c.clocked.result c.self.invariant number c.index-clocks.ensures (sym c.has_stopped.ensures ∙ c.if-has_stopped.false) up)

pub returns-clause-behind : goal.returns-clause-behind
returns-clause-behind g c =
    let s : FeedsState = record { engine = c.self.inside.engine; feeds = c.self.inside.feeds.items } in
    let n = c.args.feed in
    let number = subst (λ (x : FeedsState). n < length x.feeds) (sym c.self.view_is) c.requires.number in
    let still = subst (λ (x : FeedsState). (get_or x.feeds n new_feed).ended ≡ false) (sym c.self.view_is) c.requires.open in
    let here = read_at s.feeds n c.index-clocks.result.now number c.index-clocks.ensures in
    let own = get_or s.feeds n new_feed in
    let new : FeedsState = record { engine = c.follow.new.engine; feeds = set s.feeds n c.clocked.result } in
    let clocks : new.feeds ≡ set s.feeds n (clocked c.args.t own) = ap (set s.feeds n) (c.clocked.ensures ∙ ap (clocked c.args.t) here) in
    let in_time : c.index-clocks.result.now.last ≤ c.args.t = omega arith in
    let later : own.last ≤ c.args.t = subst (λ (f : Feed). f.last ≤ c.args.t) here in_time in
    let risen = subst (λ (fs : List Feed). IfOk c.follow.result (HasRisen s.engine new.engine fs)) c.as_slice.ensures.value c.follow.ensures.risen in
    subst (λ (x : FeedsState). IfOk c.follow.result (TakeMark x new n (Clock c.args.t))) c.self.view_is
    (clock_taken s new n number still c.args.t later clocks c.follow.result c.follow.ensures.raised c.follow.ensures.same risen)
