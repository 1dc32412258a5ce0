use Rattle.std.proofs.Common.{◌≡◌, ◌∙◌, ℕ, ap, subst, ◌⊎◌, List, map, zip, arith}
use Rattle.std.proofs.lemmas.List.{length-map}
use Rattle.crs_base.specs.declared.symbols.Sym.{Sym}
use Rattle.crs_model.specs.Hierarchy.{IsGreatest, used}
use Rattle.crs_model.specs.Models.{Chronicle}
use Rattle.crs_model.specs.Plans.{chronicle}
use Rattle.crs_model.proofs.Heights.{so_far_more, all_stand, item_at, low_below, IsAboveSome}
use Rattle.crs_model.proofs.strata.strata_of.Goals as goal

pub above_all-stratum-requires : goal.above_all-stratum-requires
above_all-stratum-requires c =
    let few = c.requires.few in
    let test = c.loop-plan-test.true in
    rw c.as_slice.ensures.value (low_below c.loop-plan.strata.items c.loop-plan.plan-index 64 (omega (arith, few, test)) (omega arith) c.loop-plan.invariant.low)

pub loop-plan-preserved : goal.loop-plan-preserved
loop-plan-preserved c =
    let cs : List (Chronicle Sym) = map (λ r. chronicle r.value) c.args.plans.now in
    let own : Chronicle Sym = chronicle c.plan-item.result.value in
    rw c.in_ok-push.ensures.items
    (so_far_more cs c.requires.in_order c.loop-plan.strata.items c.above_all-stratum.result c.loop-plan.plan-index own
    (item_at (λ r. chronicle r.value) c.args.plans.now c.loop-plan.plan-index c.plan-item.result c.plan-item.is c.loop-plan-test.true)
    c.loop-plan.invariant
    (subst (λ (names : List Sym). IsGreatest (λ m. (m ≡ 0) ⊎ IsAboveSome (zip cs c.loop-plan.strata.items) names m) c.above_all-stratum.result)
    (c.as_slice-in-loop-plan.ensures.value ∙ c.in_ok-names.ensures ∙ ap (λ p. used (chronicle p)) c.deref.ensures)
    (subst (λ (ks : List ℕ). IsGreatest (λ m. (m ≡ 0) ⊎ IsAboveSome (zip cs ks) c.as_slice-in-loop-plan.result.now m) c.above_all-stratum.result) c.as_slice.ensures.value c.above_all-stratum.ensures)))

pub returns-clause-strata : goal.returns-clause-strata
returns-clause-strata c =
    let i = c.loop-plan.invariant in
    let l = c.loop-plan-test.false in
    let m = c.loop-plan.auto.plan-index-end in
    let n = length-map c.args.plans.now (λ r. chronicle r.value) in
    all_stand (map (λ r. chronicle r.value) c.args.plans.now) c.loop-plan.strata.items _ (i.len ∙ omega (arith, l, m, n)) (λ k d n e f. i.each k d n e f)

pub returns-clause-small : goal.returns-clause-small
returns-clause-small c = low_below c.loop-plan.strata.items c.loop-plan.plan-index 64 (let m = c.loop-plan.auto.plan-index-end in let f = c.requires.few in omega (arith, m, f)) (omega arith) c.loop-plan.invariant.low
