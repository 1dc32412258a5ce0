use Rattle.std.proofs.Common.{rules, ◌+◌, drop, get_or, sym, ◌∙◌, ℕ, ◌≤◌, subst}
use Rattle.std.proofs.lemmas.List.{drop_more, drop_all}
use Rattle.crs_store.proofs.Settling.{stands_at, settled_begin, settled_next, settled_whole}
use Rattle.crs_store.proofs.holding.settle_places.Goals as goal

pub loop-place-init : goal.loop-place-init
loop-place-init c = settled_begin c.args.chart.now.plan c.args.chart.now.focus c.args.chart.now.hooks c.args.since c.args.h c.args.places.now c.args.holding.now c.requires.ordered

pub settle_place-requires-clause-of : goal.settle_place-requires-clause-of
settle_place-requires-clause-of c = λ i is. c.requires.of (get_or c.args.places.now c.loop-place.place-index 0) i (sym (stands_at c.args.holding.now.slots c.loop-place.holding.slots (get_or c.args.places.now c.loop-place.place-index 0) c.loop-place.invariant.keeps.stands) ∙ is)

pub loop-place-preserved : goal.loop-place-preserved
loop-place-preserved c =
    settled_next c.args.chart.now.plan c.args.chart.now.focus c.args.chart.now.hooks c.args.since c.args.h c.args.places.now (drop c.loop-place.place-index c.args.places.now) (drop (c.loop-place.place-index + 1) c.args.places.now) (get_or c.args.places.now c.loop-place.place-index 0) c.args.holding.now c.loop-place.holding c.settle_place.new.holding
    (drop_more c.args.places.now c.loop-place.place-index 0 (search rules)) c.loop-place.invariant (c.in_ok-settle_place.ensures {u = tt})

pub returns : goal.returns
returns c = settled_whole c.args.chart.now.plan c.args.chart.now.focus c.args.chart.now.hooks c.args.since c.args.h c.args.places.now (drop c.loop-place.place-index c.args.places.now) c.args.holding.now c.loop-place.holding (drop_all c.loop-place.place-index c.args.places.now (search rules)) c.loop-place.invariant

pub settle_place-requires-clause-stood : goal.settle_place-requires-clause-stood
settle_place-requires-clause-stood c = subst (λ (n : ℕ). n ≤ c.args.h) (sym c.loop-place.invariant.keeps.stood) c.requires.stood
