use Rattle.std.proofs.Common.{List, ◌≡◌, ◌++◌, ◌∙◌, [], map, append-nil, sym, ap, subst}
use Rattle.crs_base.specs.Sifted.{Sifts}
use Rattle.crs_instance.specs.Instances.{InstanceState}
use Rattle.crs_model.specs.declared.recognition.Recognition.{Recognition}
use Rattle.crs_store.specs.Answers.{AreFound, AreFoundInOrder}
use Rattle.crs_store.specs.Found.{founds, held_in, numbered}
use Rattle.crs_living.specs.Slots.{members}
use Rattle.crs_living.specs.Done.{IsDone}
use Rattle.crs_store.proofs.Assembled.{left_tidy}
use Rattle.crs_store.proofs.Born.{founds_found, founds_left, founds_passed}
use Rattle.crs_store.proofs.Ripened.{left_sifts}
use Rattle.crs_store.proofs.store.move_on.Goals as goal

pub take_ripe-requires-clause-ripe : goal.take_ripe-requires-clause-ripe
take_ripe-requires-clause-ripe c = λ p i is done. (((c.in_ok-pass.ensures {u = tt}).tidy).known p i is).done done

pub returns-clause-tidy : goal.returns-clause-tidy
returns-clause-tidy c = left_tidy c.args.to.now.plan.now c.args.to.now.focus c.args.to.now.hooks.now c.pass.new.holding c.args.to.now.h ((c.in_ok-pass.ensures {u = tt}).tidy) c.take_ripe.new.slots c.take_ripe.new.ripe.items ((c.in_ok-ripe.ensures {u = tt}).left)

pub returns-clause-moved : goal.returns-clause-moved
returns-clause-moved c =
    let plan = c.args.to.now.plan.now in
    let h = c.args.to.now.h in
    let number = c.args.to.now.number in
    let mark = c.args.to.now.mark in
    let rs = c.args.found.now.items in
    let passed = members c.pass.new.holding.slots.slots in
    let able : List InstanceState = passed ++ founds plan rs in
    let left = (c.in_ok-ripe.ensures {u = tt}).left in
    let all : c.in_ok-all.all.items ≡ map (numbered number mark) rs ++ c.in_ok-ripe.ripe.items = c.in_ok-all.ensures.all in
    let none : c.answered.new.found.items ≡ [] = c.answered.ensures.none in
    record {
      able = able;
      passed = founds_passed plan rs c.requires.kept c.args.to.now.focus c.args.to.now.history.now c.args.to.now.since h (members c.args.holding.now.slots.slots) passed ((c.in_ok-pass.ensures {u = tt}).renews);
      found = subst (λ (a : List Recognition). AreFoundInOrder plan h number mark able a) (sym c.from_vec.ensures) (record {
        found = c.in_ok-all.all.items;
        are = subst (λ (a : List Recognition). AreFound plan h number mark able a) (sym all) (founds_found plan rs c.requires.kept h number mark passed c.in_ok-ripe.ripe.items ((c.in_ok-ripe.ensures {u = tt}).found));
        moved = c.put_in_order.ensures.moved;
        sorted = c.put_in_order.ensures.sorted;
      });
      left = subst (λ (is : List InstanceState). Sifts (λ i. IsDone plan h i → ⊥) able is) (sym (ap (held_in plan c.take_ripe.new.slots) none ∙ append-nil (members c.take_ripe.new.slots.slots)))
          (founds_left plan rs c.requires.kept h passed (members c.take_ripe.new.slots.slots) (left_sifts plan h c.pass.new.holding.slots.slots c.take_ripe.new.slots.slots left.places left.each));
    }
