use Rattle.std.proofs.Common.{rules, ◌≡◌, ◌+◌, ◌++◌, ◌∷◌, [], Bool, true, false, sym, subst}
use Rattle.crs_focus.specs.PlanLevels.{levels_in, AreAwaited}
use Rattle.crs_focus.proofs.Awaiting.{awaited_more, unawaited_more}
use Rattle.crs_focus.proofs.awaited.awaited_events.Goals as goal
use Rattle.crs_focus.proofs.awaited.awaited_events.Goals.{then-is_awaited+in_ok-push, else-is_awaited}

no_both : (b : Bool) → b ≡ true → b ≡ false → ⊥
no_both b t f = absurd cc

pub loop-event-preserved : goal.loop-event-preserved
loop-event-preserved c = elim c.if-is_awaited.branch [
  | then-is_awaited+in_ok-push w ↦
      let items : c.if-is_awaited.events.items ≡ c.loop-event.events.items ++ c.loop-event.event ∷ [] = search rules in
      subst (AreAwaited (levels_in c.args.plan.now c.args.focus) c.args.instance.now.partial (c.loop-event.event + 1)) (sym items)
      (awaited_more (levels_in c.args.plan.now c.args.focus) c.args.instance.now.partial c.loop-event.event c.loop-event.events.items c.loop-event.invariant (c.is_awaited.ensures.0 w.if-is_awaited.true))
  | else-is_awaited w ↦
      let items : c.if-is_awaited.events.items ≡ c.loop-event.events.items = search rules in
      subst (AreAwaited (levels_in c.args.plan.now c.args.focus) c.args.instance.now.partial (c.loop-event.event + 1)) (sym items)
      (unawaited_more (levels_in c.args.plan.now c.args.focus) c.args.instance.now.partial c.loop-event.event c.loop-event.events.items c.loop-event.invariant (λ a. no_both c.is_awaited.result (c.is_awaited.ensures.1 a) w.if-is_awaited.false))
]
