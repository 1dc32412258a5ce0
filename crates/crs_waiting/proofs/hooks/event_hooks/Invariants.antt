use Rattle.crs_model.specs.Plans.{chronicle}
use Rattle.crs_waiting.specs.Hooks.{IsHookOfEvent}
use Rattle.crs_waiting.specs.Orders.{IsBeforeAt}
use Rattle.crs_waiting.proofs.Hooking.{AreHooked}
use Rattle.crs_waiting.proofs.hooks.event_hooks.Given as goal

abbrev pub invariant-loop-event : goal.invariant-loop-event
invariant-loop-event l = AreHooked IsHookOfEvent (IsBeforeAt l.plan l.focus l.ranks) (chronicle l.plan).events l.event l.hooks.items
