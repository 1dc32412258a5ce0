use Rattle.std.proofs.Common.{rules, length, ◌≡◌, ◌<◌, sym, ◌∙◌, arith}
use Rattle.std.proofs.lemmas.List.{length-map}
use Rattle.crs_model.proofs.Options.{of_some}
use Rattle.crs_model.specs.Plans.{chronicle}
use Rattle.crs_model.specs.SeenModels.{event_of}
use Rattle.crs_waiting.specs.Hooks.{IsHookOfEvent}
use Rattle.crs_waiting.specs.Orders.{IsBeforeAt}
use Rattle.crs_waiting.proofs.Hooking.{hooked_none, hooked_more, hooked_zip}
use Rattle.crs_waiting.proofs.hooks.event_hooks.Goals as goal

pub loop-event-init : goal.loop-event-init
loop-event-init c = hooked_none IsHookOfEvent (IsBeforeAt c.args.plan.now c.args.focus c.args.ranks.now) (chronicle c.args.plan.now).events c.new-hooks.result.items c.new-hooks.ensures.items

pub loop-event-preserved : goal.loop-event-preserved
loop-event-preserved c =
    let plan = c.args.plan.now in
    let inside : c.loop-event.event < length (chronicle plan).events = (let l : c.loop-event.event < length plan.chronicle.events = search rules in omega (arith, length-map plan.chronicle.events event_of)) in
    hooked_more IsHookOfEvent (IsBeforeAt plan c.args.focus c.args.ranks.now) (chronicle plan).events c.loop-event.event c.loop-event.hooks.items c.push.new.self.items c.in_ok-hook.hook inside ((c.in_ok-hook.ensures {u = tt}).hook)
    (λ f named. of_some c.before_of-before.result f (IsBeforeAt plan c.args.focus c.args.ranks.now c.loop-event.event) (sym ((c.in_ok-hook.ensures {u = tt}).before) ∙ named) c.before_of-before.ensures)
    (search rules) c.loop-event.invariant

pub returns-clause-hooks : goal.returns-clause-hooks
returns-clause-hooks c =
    let plan = c.args.plan.now in
    let all : c.loop-event.event ≡ length plan.chronicle.events = search rules in
    hooked_zip IsHookOfEvent (IsBeforeAt plan c.args.focus c.args.ranks.now) (chronicle plan).events c.loop-event.event c.loop-event.hooks.items (all ∙ sym (length-map plan.chronicle.events event_of)) c.loop-event.invariant

pub returns-clause-order : goal.returns-clause-order
returns-clause-order c = record { each = c.loop-event.invariant.befores }
