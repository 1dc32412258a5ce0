use Rattle.std.proofs.Common.{rules, sym, subst, List}
use Rattle.crs_model.specs.declared.recognition.Recognition.{Recognition}
use Rattle.crs_waiting.proofs.Moved.{moved_in}
use Rattle.crs_store.proofs.Ripened.{AreTaken, taken_none, taken_at, named_at, all_left, all_found}
use Rattle.crs_store.proofs.ripening.take_ripe.Goals as goal

pub loop-place-init : goal.loop-place-init
loop-place-init c = (
  subst (λ (rs : List Recognition). AreTaken c.args.judging.now.plan.now c.args.judging.now.h c.args.number c.args.mark c.args.slots.now c.args.slots.now rs) (sym c.in_ok-found.ensures.items) (taken_none c.args.judging.now.plan.now c.args.judging.now.h c.args.number c.args.mark c.args.slots.now),
  λ p i f done. moved_in _ _ c.reverse.ensures.permutation p (c.requires.ripe p i f done),
)

pub loop-place-preserved : goal.loop-place-preserved
loop-place-preserved c =
    let takes = c.in_ok-take_at.ensures {u = tt} in (
      taken_at c.args.judging.now.plan.now c.args.judging.now.h c.args.number c.args.mark c.args.slots.now c.loop-place.slots c.take_at.new.slots c.in-Some.place c.loop-place.found.items c.take_at.new.found.items c.loop-place.invariant.0 takes,
      named_at c.args.judging.now.plan.now c.args.judging.now.h c.args.number c.args.mark c.args.slots.now c.loop-place.slots c.take_at.new.slots c.in-Some.place c.loop-place.found.items c.take_at.new.found.items c.loop-place.ripe.items c.pop.new.self.items (search rules) c.loop-place.invariant.1 takes,
    )

pub returns-clause-found : goal.returns-clause-found
returns-clause-found c = all_found c.args.judging.now.plan.now c.args.judging.now.h c.args.number c.args.mark c.args.slots.now c.loop-place.slots c.loop-place.found.items c.loop-place.ripe.items c.loop-place.invariant.0 c.loop-place.invariant.1 (search rules)

pub returns-clause-left : goal.returns-clause-left
returns-clause-left c = all_left c.args.judging.now.plan.now c.args.judging.now.h c.args.number c.args.mark c.args.slots.now c.loop-place.slots c.loop-place.found.items c.loop-place.ripe.items c.loop-place.invariant.0 c.loop-place.invariant.1 (search rules)
