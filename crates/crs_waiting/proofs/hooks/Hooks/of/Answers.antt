use Rattle.std.proofs.Common.{rules, ◌≡◌, ◌<◌, ◌∙◌, List, ℕ, ap, length, subst, arith}
use Rattle.std.proofs.lemmas.List.{length-map}
use Rattle.crs_model.specs.Plans.{chronicle, IsProper}
use Rattle.crs_model.specs.SeenModels.{event_of}
use Rattle.crs_model.specs.declared.plan.Plan.{Plan}
use Rattle.std.specs.List.{AllZip}
use Rattle.crs_waiting.specs.declared.hooks.Hook.{Hook}
use Rattle.crs_waiting.specs.Hooks.{IsHookOfEvent}
use Rattle.crs_waiting.specs.Named.{AreFirsts, AreNexts}
use Rattle.crs_waiting.specs.Orders.{AreOrdered}
use Rattle.crs_waiting.proofs.Hooking.{zip_long}
use Rattle.crs_waiting.proofs.hooks.Hooks.of.Goals as goal

few_hooks : (plan : Plan) → IsProper plan → (hooks : List Hook) → AllZip IsHookOfEvent (chronicle plan).events hooks → length hooks < 256
few_hooks plan proper hooks all =
    let long = zip_long IsHookOfEvent (chronicle plan).events hooks all ∙ length-map plan.chronicle.events event_of in
    let few = proper.events_few in omega arith

pub firsts_of-requires : goal.firsts_of-requires
firsts_of-requires c =
    let few = few_hooks c.args.plan.now c.requires.proper c.in_ok-events.events.items ((c.in_ok-events.ensures {u = tt}).hooks) in
    let same = ap length c.as_slice-3.ensures.value in
    record { few = omega arith }

pub nexts_of-requires : goal.nexts_of-requires
nexts_of-requires c =
    let few = few_hooks c.args.plan.now c.requires.proper c.in_ok-events.events.items ((c.in_ok-events.ensures {u = tt}).hooks) in
    let same = ap length c.as_slice-5.ensures.value in
    record { few = omega arith }

pub invariant_of-result : goal.invariant_of-result
invariant_of-result c = record {
  named = record {
    few = few_hooks c.args.plan.now c.requires.proper c.in_ok-events.events.items ((c.in_ok-events.ensures {u = tt}).hooks);
    first = subst (λ (t : List Hook). AreFirsts t c.in_ok-firsts.firsts.items) c.as_slice-3.ensures.value (c.in_ok-firsts.ensures {u = tt});
    next = subst (λ (t : List Hook). AreNexts t c.in_ok-nexts.nexts.items) c.as_slice-5.ensures.value (c.in_ok-nexts.ensures {u = tt});
  };
}

pub returns-clause-order : goal.returns-clause-order
returns-clause-order c =
    let same : c.as_slice.result.now ≡ c.args.ranks.value.items = search rules in
    subst (λ (t : List ℕ). AreOrdered c.args.plan.now c.args.focus t c.in_ok-events.events.items) same ((c.in_ok-events.ensures {u = tt}).order)
