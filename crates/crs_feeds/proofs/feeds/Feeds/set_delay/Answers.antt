use Rattle.std.proofs.Common.{◌≡◌, ◌<◌, false, length, get_or, set, subst, sym}
use Rattle.crs_log.specs.Items.{Delay}
use Rattle.crs_feeds.specs.declared.feed.Feed.{Feed}
use Rattle.crs_feeds.specs.Merged.{new_feed}
use Rattle.crs_feeds.specs.States.{FeedsState}
use Rattle.crs_feeds.specs.Standing.{TakeItem}
use Rattle.crs_feeds.proofs.Horizons.{delayed_on, read_at}
use Rattle.crs_feeds.proofs.Standing.{delay_taken}
use Rattle.crs_feeds.proofs.feeds.Feeds.set_delay.Goals as goal

pub invariant_of-self : goal.invariant_of-self
invariant_of-self c =
    let s : FeedsState = record { engine = c.self.inside.engine; feeds = c.self.inside.feeds.items } in
    let number = subst (λ (x : FeedsState). c.args.feed < length x.feeds) (sym c.self.view_is) c.requires.number in
    delayed_on s c.args.feed c.args.d c.index-clocks.result.now c.self.invariant number c.index-clocks.ensures

pub returns-clause-behind : goal.returns-clause-behind
returns-clause-behind c =
    let s : FeedsState = record { engine = c.self.inside.engine; feeds = c.self.inside.feeds.items } in
    let n = c.args.feed in
    let number = subst (λ (x : FeedsState). n < length x.feeds) (sym c.self.view_is) c.requires.number in
    let still = subst (λ (x : FeedsState). (get_or x.feeds n new_feed).ended ≡ false) (sym c.self.view_is) c.requires.open in
    let here = read_at s.feeds n c.index-clocks.result.now number c.index-clocks.ensures in
    let taken = delay_taken s n c.args.d number c.self.invariant still in
    let now : FeedsState = record { engine = s.engine; feeds = set s.feeds n (record c.index-clocks.result.now { delay = c.args.d }) } in
    subst (λ (x : FeedsState). TakeItem x now n (Delay c.args.d)) c.self.view_is
    (subst (λ (f : Feed). TakeItem s (record { engine = s.engine; feeds = set s.feeds n (record f { delay = c.args.d }) }) n (Delay c.args.d)) (sym here) taken)
