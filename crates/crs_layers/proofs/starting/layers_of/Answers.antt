use Rattle.std.proofs.Common.{◌≡◌, ◌+◌, ◌∙◌, ◌++◌, [], ◌∷◌, ap, sym, subst, List, ℕ, length, map, arith, length-append}
use Rattle.crs_model.specs.declared.plan.Plan.{Plan}
use Rattle.crs_layers.specs.declared.layer.Layer.{Layer}
use Rattle.crs_layers.specs.LayerPlans.{AreNewLayers}
use Rattle.crs_layers.proofs.Beginning.{new_more}
use Rattle.crs_layers.proofs.starting.layers_of.Goals as goal

pub loop-stratum-preserved : goal.loop-stratum-preserved
loop-stratum-preserved c =
    let ps : List Plan = map (λ r. r.value) c.args.plans.now in
    let ks : List ℕ = c.args.strata.now in
    let i = c.loop-stratum.invariant in
    let ls : List Layer = c.loop-stratum.layers.items in
    let l : Layer = c.in_ok-layer_of.field-0 in
    let items : c.push.new.self.items ≡ ls ++ l ∷ [] = c.in_ok-push.ensures.items in
    let long = length-append ls (l ∷ []) in
    let first = i.0 in (
      ap length items ∙ long ∙ ap (λ (n : ℕ). n + 1) first,
      i.1,
      subst (AreNewLayers ps ks c.args.focus c.args.limit 0) (sym items)
          (new_more ps ks c.args.focus c.args.limit 0 c.loop-stratum.stratum ls l (omega (arith, first)) i.2 c.in_ok-layer_of.ensures),
    )
