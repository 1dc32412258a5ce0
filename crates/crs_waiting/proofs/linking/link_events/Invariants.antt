use Rattle.crs_waiting.proofs.Linked.{AreLinkedTo}
use Rattle.crs_waiting.proofs.linking.link_events.Given as goal

abbrev pub invariant-loop-event : goal.invariant-loop-event
invariant-loop-event l = AreLinkedTo l.chart.plan l.chart.focus l.chart.hooks.events.items l.handle l.since l.h l.instance l.event l.fn.waiting l.waiting
