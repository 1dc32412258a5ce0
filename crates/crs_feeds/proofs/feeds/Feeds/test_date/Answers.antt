use Rattle.std.proofs.Common.{◌<◌, length, subst, sym}
use Rattle.crs_feeds.specs.States.{FeedsState}
use Rattle.crs_feeds.proofs.Horizons.{held_by}
use Rattle.crs_feeds.proofs.feeds.Feeds.test_date.Goals as goal

pub has_stopped-requires : goal.has_stopped-requires
has_stopped-requires c =
    let s : FeedsState = record { engine = c.self.inside.engine; feeds = c.self.inside.feeds.items } in
    let number = subst (λ (x : FeedsState). c.args.feed < length x.feeds) (sym c.self.view_is) c.requires.number in
    λ r. held_by s c.args.feed c.index.result.now c.self.invariant number c.index.ensures r
