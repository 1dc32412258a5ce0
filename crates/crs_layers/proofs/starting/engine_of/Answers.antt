use Rattle.std.proofs.Common.{◌≡◌, ◌∙◌, ap, sym, subst, List, ◌++◌, length, map, arith}
use Rattle.std.proofs.lemmas.List.{length-map}
use Rattle.std.specs.List.{AllByRecursion}
use Rattle.crs_model.specs.declared.plan.Plan.{Plan}
use Rattle.crs_model.specs.Plans.{IsProper}
use Rattle.crs_layers.specs.LayerPlans.{picked}
use Rattle.crs_layers.proofs.Beginning.{picked_each, picked_few, each_value, value_each}
use Rattle.crs_layers.proofs.starting.engine_of.Goals as goal

pub with_ranks-requires-clause-proper : goal.with_ranks-requires-clause-proper
with_ranks-requires-clause-proper c =
    let plans : List Plan = map (λ r. r.value) c.args.plans.now in
    let own : map (λ r. r.value) c.pick.new.own ≡ picked c.args.stratum plans c.args.strata.now =
    c.in_ok-pick.ensures {u = tt} ∙ ap (λ rs. map (λ r. r.value) rs ++ picked c.args.stratum plans c.args.strata.now) c.new-own.ensures in
    each_value IsProper c.pick.new.own (subst (AllByRecursion IsProper) (sym own)
    (picked_each IsProper c.args.stratum plans c.args.strata.now (value_each IsProper c.args.plans.now c.requires.proper)))

pub with_ranks-requires-clause-few : goal.with_ranks-requires-clause-few
with_ranks-requires-clause-few c =
    let plans : List Plan = map (λ r. r.value) c.args.plans.now in
    let own : map (λ r. r.value) c.pick.new.own ≡ picked c.args.stratum plans c.args.strata.now =
    c.in_ok-pick.ensures {u = tt} ∙ ap (λ rs. map (λ r. r.value) rs ++ picked c.args.stratum plans c.args.strata.now) c.new-own.ensures in
    let a = length-map c.pick.new.own (λ r. r.value) in
    let b = length-map c.args.plans.now (λ r. r.value) in
    let d = ap length own in
    let e = picked_few c.args.stratum plans c.args.strata.now in
    let f = c.requires.few in
    omega (arith, a, b, d, e, f)

pub with_ranks-requires-clause-reach : goal.with_ranks-requires-clause-reach
with_ranks-requires-clause-reach c = rw c.as_slice.ensures at c.reach_of_all-reach.ensures
