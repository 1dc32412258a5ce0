use Rattle.std.proofs.Common.{rules, inl, refl, ◌+◌, drop, get_or}
use Rattle.std.proofs.lemmas.List.{drop_more}
use Rattle.crs_living.specs.Windows.{IsAble, IsPassed}
use Rattle.crs_living.proofs.Walked.{walked_more}
use Rattle.crs_living.proofs.walking.pass_places.Goals as goal

pub loop-place-init : goal.loop-place-init
loop-place-init c = record { at = λ p i. inl i; left = λ p i. (i, refl); others = λ p n. refl; handles = λ p j f. refl; places = refl; ordered = c.requires.ordered }

pub loop-place-preserved : goal.loop-place-preserved
loop-place-preserved c =
    walked_more (IsPassed c.args.passing.now.judging.plan.now c.args.passing.now.history.now c.args.passing.now.since c.args.passing.now.judging.h) (IsAble c.args.passing.now.judging.plan.now c.args.passing.now.judging.focus c.args.passing.now.judging.h) c.args.places.now c.args.slots.now c.loop-place.slots c.pass_at.new.self (get_or c.args.places.now c.loop-place.place-index 0) (drop c.loop-place.place-index c.args.places.now) (drop (c.loop-place.place-index + 1) c.args.places.now)
    (drop_more c.args.places.now c.loop-place.place-index 0 (search rules)) c.loop-place.invariant c.pass_at.ensures
