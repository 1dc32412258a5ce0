use Rattle.crs_focus.specs.PlanLevels.{levels_in, AreAwaited}
use Rattle.crs_focus.proofs.awaited.awaited_events.Given as goal

abbrev pub invariant-loop-event : goal.invariant-loop-event
invariant-loop-event l = AreAwaited (levels_in l.plan l.focus) l.instance.partial l.event l.events.items
