use Rattle.std.proofs.Common.{◌≡◌, ◌≤◌, ◌<◌, ◌∙◌, ℕ, List, length, map, zip, sym, ap, subst, arith}
use Rattle.std.specs.Prelude.{ℤ, Option}
use Rattle.std.proofs.lemmas.List.{length-map}
use Rattle.crs_base.specs.declared.symbols.Sym.{Sym}
use Rattle.crs_model.specs.declared.plan.Plan.{Plan}
use Rattle.crs_model.specs.Hierarchy.{AreInOrder, AreStrata, lag_below}
use Rattle.crs_model.specs.Models.{Chronicle}
use Rattle.crs_model.specs.Plans.{IsProper, chronicle}
use Rattle.crs_layers.specs.Strata.{strata_count}
use Rattle.crs_layers.specs.LayerPlans.{AreNewLayers}
use Rattle.crs_layers.proofs.Beginning.{chronicles_of_values, lags_of_values, value_each, zipped_length, near_all}
use Rattle.crs_layers.proofs.AtStart.{stands_new, layers_new}
use Rattle.crs_layers.proofs.layers.Layers.with_ranks.Goals as goal

pub layers_of-requires-clause-numbers : goal.layers_of-requires-clause-numbers
layers_of-requires-clause-numbers c =
    let a = ap length c.as_slice-3.ensures.value in
    let b = zipped_length _ (map (λ r. chronicle r.value) c.as_slice.result.now) c.in_ok-strata.strata.items c.in_ok-strata.ensures.strata in
    let d = length-map c.as_slice.result.now (λ r. chronicle r.value) in
    let e = ap length c.as_slice.ensures in
    let f = c.requires.few in
    omega (arith, a, b, d, e, f)

pub layers_of-requires-clause-near : goal.layers_of-requires-clause-near
layers_of-requires-clause-near c =
    let rs = c.args.plans.plans in
    let ps : List Plan = map (λ r. r.value) rs in
    let ks : List ℕ = c.in_ok-strata.strata.items in
    let order = subst AreInOrder (sym (chronicles_of_values rs)) c.requires.in_order in
    let are = subst (λ (cs : List (Chronicle Sym)). AreStrata cs ks) (sym (chronicles_of_values rs)) (subst (λ qs. AreStrata (map (λ r. chronicle r.value) qs) ks) c.as_slice.ensures c.in_ok-strata.ensures.strata) in
    let near = near_all ps ks order are c.requires.lags in
    subst (λ (ms : List ℕ). (j : ℕ) → j < strata_count ms → lag_below (zip ms (map (λ r. r.value.lag) c.as_slice-2.result.now)) j ≤ 1099511627776) (sym c.as_slice-3.ensures.value)
    (subst (λ qs. (j : ℕ) → j < strata_count ks → lag_below (zip ks (map (λ r. r.value.lag) qs)) j ≤ 1099511627776) (sym c.as_slice-2.ensures)
    (subst (λ (xs : List (Option ℤ)). (j : ℕ) → j < strata_count ks → lag_below (zip ks xs) j ≤ 1099511627776) (lags_of_values rs) near))

pub invariant_of-result : goal.invariant_of-result
invariant_of-result c =
    let rs = c.args.plans.plans in
    let ps : List Plan = map (λ r. r.value) rs in
    let ks : List ℕ = c.in_ok-strata.strata.items in
    let order = subst AreInOrder (sym (chronicles_of_values rs)) c.requires.in_order in
    let are = subst (λ (cs : List (Chronicle Sym)). AreStrata cs ks) (sym (chronicles_of_values rs)) (subst (λ qs. AreStrata (map (λ r. chronicle r.value) qs) ks) c.as_slice.ensures c.in_ok-strata.ensures.strata) in
    let count : length c.in_ok-layers.layers.items ≡ strata_count ks = c.in_ok-layers.ensures.count ∙ ap strata_count c.as_slice-3.ensures.value in
    let new = subst (λ (ms : List ℕ). AreNewLayers ps ms c.args.focus c.args.limit 0 c.in_ok-layers.layers.items) c.as_slice-3.ensures.value
    (subst (λ qs. AreNewLayers (map (λ r. r.value) qs) c.as_slice-3.result.now c.args.focus c.args.limit 0 c.in_ok-layers.layers.items) c.as_slice-2.ensures c.in_ok-layers.ensures.new) in
    layers_new c.args.plans ks c.args.focus c.args.limit c.in_ok-layers.layers.items count new order are (value_each IsProper rs c.requires.proper) c.requires.lags

pub returns-clause-stands : goal.returns-clause-stands
returns-clause-stands c =
    let rs = c.args.plans.plans in
    let ps : List Plan = map (λ r. r.value) rs in
    let ks : List ℕ = c.in_ok-strata.strata.items in
    let order = subst AreInOrder (sym (chronicles_of_values rs)) c.requires.in_order in
    let are = subst (λ (cs : List (Chronicle Sym)). AreStrata cs ks) (sym (chronicles_of_values rs)) (subst (λ qs. AreStrata (map (λ r. chronicle r.value) qs) ks) c.as_slice.ensures c.in_ok-strata.ensures.strata) in
    let count : length c.in_ok-layers.layers.items ≡ strata_count ks = c.in_ok-layers.ensures.count ∙ ap strata_count c.as_slice-3.ensures.value in
    let new = subst (λ (ms : List ℕ). AreNewLayers ps ms c.args.focus c.args.limit 0 c.in_ok-layers.layers.items) c.as_slice-3.ensures.value
    (subst (λ qs. AreNewLayers (map (λ r. r.value) qs) c.as_slice-3.result.now c.args.focus c.args.limit 0 c.in_ok-layers.layers.items) c.as_slice-2.ensures c.in_ok-layers.ensures.new) in
    stands_new c.args.plans ks c.args.focus c.args.limit c.in_ok-layers.layers.items count new order are
