use Rattle.std.proofs.Common.{rules, ◌≡◌, ◌∙◌, sym, subst}
use Rattle.std.specs.Prelude.{true, false, Some}
use Rattle.crs_agenda.specs.declared.timed.Handle.{Handle}
use Rattle.crs_model.specs.declared.plan.Plan.{Plan}
use Rattle.crs_waiting.specs.Links.{linked_by, IsLinkedAnew, IsArmedAnew}
use Rattle.crs_living.specs.Slots.{slot_at}
use Rattle.crs_living.specs.Done.{IsDone}
use Rattle.crs_store.proofs.Settling.{stands_at, settled_renewed, settled_none, settled_done, settled_found}
use Rattle.crs_store.proofs.holding.settle_place.Goals as goal

no_both : true ≡ false → ⊥
no_both e = cc

pub returns-in_default : goal.returns-in_default
returns-in_default c = settled_none c.args.chart.now.plan c.args.chart.now.focus c.args.chart.now.hooks c.args.since c.args.h c.args.place c.args.holding.now (search rules)

pub returns-then-is_done : goal.returns-then-is_done
returns-then-is_done c =
    settled_done c.args.chart.now.plan c.args.chart.now.focus c.args.chart.now.hooks c.args.since c.args.h c.args.place c.args.holding.now c.push.new.self c.in-Some.instance.now (search rules)
    (subst (λ (p : Plan). IsDone p c.args.h c.in-Some.instance.now) c.plan.ensures.same (c.is_done.ensures.0 c.if-is_done.true)) ((c.in_ok-push.ensures {u = tt}).items)

pub find_anew-requires : goal.find_anew-requires
find_anew-requires c = record { of = c.requires.of c.in-Some.instance.now (search rules) }

pub returns : goal.returns
returns c =
    let is : slot_at c.args.holding.now.slots c.args.place ≡ Some c.in-Some.instance.now = search rules in
    settled_found c.args.chart.now.plan c.args.chart.now.focus c.args.chart.now.hooks c.args.since c.args.h c.args.place c.args.holding.now c.find_anew.new.waiting c.in-Some.instance.now is
    (λ d. no_both (sym (c.is_done.ensures.1 (subst (λ (p : Plan). IsDone p c.args.h c.in-Some.instance.now) (sym c.plan.ensures.same) d)) ∙ c.if-is_done.false)) c.find_anew.ensures.grown
    (subst (λ (g : Handle). IsLinkedAnew c.args.chart.now.plan c.args.chart.now.focus c.args.chart.now.hooks.events.items c.find_anew.new.waiting g (Some (linked_by c.args.chart.now.plan c.args.since)) (linked_by c.args.chart.now.plan c.args.h) c.in-Some.instance.now) c.handle-handle.ensures ((c.in_ok-find_anew.ensures {u = tt}).linked))
    (subst (λ (g : Handle). IsArmedAnew c.args.chart.now.plan c.args.chart.now.hooks.windows.items c.find_anew.new.waiting g (Some c.args.since) c.args.h c.in-Some.instance.now) c.handle-handle.ensures ((c.in_ok-find_anew.ensures {u = tt}).armed))

pub register-requires-clause-of : goal.register-requires-clause-of
register-requires-clause-of c = λ i is. c.requires.of i (sym (stands_at c.args.holding.now.slots c.renew.new.self c.args.place c.renew.ensures.stands) ∙ is)

pub returns-then-has_enough_now : goal.returns-then-has_enough_now
returns-then-has_enough_now c =
    let is : slot_at c.args.holding.now.slots c.args.place ≡ Some c.in-Some.instance.now = search rules in
    settled_renewed c.args.chart.now.plan c.args.chart.now.focus c.args.chart.now.hooks c.args.since c.args.h c.args.place c.args.holding.now c.renew.new.self c.register.new.holding c.in-Some.instance.now is
    (λ d. no_both (sym (c.is_done.ensures.1 (subst (λ (p : Plan). IsDone p c.args.h c.in-Some.instance.now) (sym c.plan.ensures.same) d)) ∙ c.if-is_done.false)) c.renew.ensures (c.in_ok-register.ensures {u = tt})
