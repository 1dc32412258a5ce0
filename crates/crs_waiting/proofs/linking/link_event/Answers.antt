use Rattle.std.proofs.Common.{subst}
use Rattle.crs_waiting.specs.declared.hooks.Hook.{Hook}
use Rattle.crs_waiting.specs.Orders.{IsUnboundBefore}
use Rattle.crs_waiting.proofs.Next.{before_within, not_next}
use Rattle.crs_waiting.proofs.linking.link_event.Goals as goal

pub is_held_back-requires : goal.is_held_back-requires
is_held_back-requires c =
    let chart = c.args.chart.now in
    before_within chart.plan chart.focus chart.hooks.ranks.value.items chart.hooks.events.items c.plan-plan.ensures.is.order c.args.event c.event_hook-hook.result.now c.event_hook-hook.ensures _ c.requires.of.len

pub returns-then-is_held_back-clause-linked : goal.returns-then-is_held_back-clause-linked
returns-then-is_held_back-clause-linked c = λ next can since.
    let chart = c.args.chart.now in
    let back = subst (λ (h : Hook). IsUnboundBefore h c.args.instance.now.partial) c.event_hook-hook.ensures (c.is_held_back.ensures.0 c.if-is_held_back.true) in
    absurd (not_next chart.plan chart.focus chart.hooks.ranks.value.items chart.hooks.events.items c.plan-plan.ensures.is.order c.args.event c.args.instance.now.partial c.requires.of.len back next)
