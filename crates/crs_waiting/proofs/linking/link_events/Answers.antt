use Rattle.std.proofs.Common.{◌∙◌, sym}
use Rattle.crs_focus.specs.PlanLevels.{levels_in}
use Rattle.crs_focus.proofs.Awaiting.{whole_awaits_none}
use Rattle.crs_waiting.proofs.Linked.{linked_next}
use Rattle.crs_waiting.proofs.linking.link_events.Goals as goal

pub returns-in_err-link_event-clause-grown : goal.returns-in_err-link_event-clause-grown
returns-in_err-link_event-clause-grown c = λ k h w. c.link_event.ensures.grown k h (c.loop-event.invariant.grown k h w)

pub loop-event-preserved : goal.loop-event-preserved
loop-event-preserved c =
    linked_next c.args.chart.now.plan c.args.chart.now.focus c.args.chart.now.hooks.events.items c.args.handle c.args.since c.args.h c.args.instance.now c.loop-event.event c.args.waiting.now c.loop-event.waiting c.link_event.new.waiting c.loop-event.invariant c.link_event.ensures.grown ((c.in_ok-link_event.ensures {u = tt}).linked)

pub returns-then-is_whole-clause-linked : goal.returns-then-is_whole-clause-linked
returns-then-is_whole-clause-linked c = λ e next start since. absurd (whole_awaits_none (levels_in c.args.chart.now.plan c.args.chart.now.focus) c.args.instance.now.partial (sym c.is_whole.ensures ∙ c.if-is_whole.true) e next.awaited)
