use Rattle.std.proofs.Common.{◌≡◌, ◌∙◌, length, arith, ap, subst, sym}
use Rattle.std.specs.List.{AllByRecursion}
use Rattle.crs_feeds.specs.Merged.{common}
use Rattle.crs_feeds.specs.States.{FeedsState, IsFeed}
use Rattle.crs_feeds.proofs.Horizons.{each_new, common_new, length_new}
use Rattle.crs_feeds.proofs.Standing.{stands_new}
use Rattle.crs_feeds.proofs.feeds.Feeds.new.Goals as goal

pub invariant_of-result : goal.invariant_of-result
invariant_of-result c =
    let is = c.in_ok-clocks.ensures in
    let long = ap length is ∙ length_new c.args.feeds in
    let least = c.requires.least in
    let most = c.requires.most in
    let low : common c.in_ok-clocks.clocks.items ≡ 0 = ap common is ∙ common_new c.args.feeds (omega (arith, least)) in
    let new = c.in_ok-engine.ensures.new in
    record {
      each = subst (AllByRecursion IsFeed) (sym is) (each_new c.args.feeds);
      some = omega (arith, long, least);
      few = omega (arith, long, most);
      at = λ _. record { delay = new.no_delay; last = new.no_clock ∙ sym low; horizon = new.at_start ∙ sym low };
    }

pub returns-clause-behind : goal.returns-clause-behind
returns-clause-behind c =
    let is = c.in_ok-clocks.ensures in
    let least = c.requires.least in
    let new = c.in_ok-engine.ensures.new in
    let s : FeedsState = record { engine = c.in_ok-engine.engine; feeds = c.in_ok-clocks.clocks.items } in
    let low : common s.feeds ≡ 0 = ap common is ∙ common_new c.args.feeds (omega (arith, least)) in
    stands_new s c.args.feeds is new.running (new.at_start ∙ sym low) new.none_accepted new.none_marked c.in_ok-engine.ensures.stands
