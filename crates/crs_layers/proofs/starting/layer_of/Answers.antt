use Rattle.std.proofs.Common.{◌∙◌, ◌++◌, ap, sym, List, ℕ, map, zip, arith}
use Rattle.std.specs.Prelude.{ℤ, Option}
use Rattle.crs_model.specs.declared.plan.Plan.{Plan}
use Rattle.crs_model.specs.Hierarchy.{lag_below}
use Rattle.crs_engine.specs.Engines.{EngineState, plans_of}
use Rattle.crs_layers.specs.LayerPlans.{numbers_of}
use Rattle.crs_layers.proofs.Beginning.{behind_placed, lags_of_values}
use Rattle.crs_layers.proofs.starting.layer_of.Goals as goal

pub returns : goal.returns
returns c =
    let ps : List Plan = map (λ r. r.value) c.args.plans.now in
    let ks : List ℕ = c.args.strata.now in
    let v = c.set_delay.ensures.value in
    let k = c.in_ok-engine.ensures in
    let b = c.lag_below-behind.ensures.value in
    let near = c.requires.near in
    record {
      of = record {
        own_plans = ap (λ (x : EngineState). plans_of x.plans) v ∙ k.own_plans;
        numbers = c.in_ok-push_numbers.ensures {u = tt} ∙ ap (λ (ns : List ℕ). ns ++ numbers_of c.args.stratum 0 ks) c.new-numbers.ensures;
        own_behind = b ∙ ap (λ (xs : List (Option ℤ)). lag_below (zip ks xs) c.args.stratum) (sym (lags_of_values c.args.plans.now)) ∙ sym (behind_placed ps ks c.args.stratum);
        near = omega (arith, b, near);
        own_focus = ap (λ (x : EngineState). x.focus) v ∙ k.own_focus;
        own_limit = ap (λ (x : EngineState). x.limit) v ∙ k.own_limit;
      };
      engine = record {
        own_plans = ap (λ (x : EngineState). plans_of x.plans) v ∙ k.own_plans;
        own_focus = ap (λ (x : EngineState). x.focus) v ∙ k.own_focus;
        own_limit = ap (λ (x : EngineState). x.limit) v ∙ k.own_limit;
        last = ap (λ (x : EngineState). x.last) v ∙ k.last;
        horizon = ap (λ (x : EngineState). x.horizon) v ∙ k.horizon;
        accepted = ap (λ (x : EngineState). x.accepted) v ∙ k.accepted;
        marked = ap (λ (x : EngineState). x.marked) v ∙ k.marked;
        running = ap (λ (x : EngineState). x.stopped) v ∙ k.running;
        stands = c.set_delay.ensures.stands _ _ k.stands;
      };
      delay = ap (λ (x : EngineState). x.delay) v;
    }
