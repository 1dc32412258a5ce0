use Rattle.std.proofs.Common.{◌≡◌, sym, subst, ap, ◌∙◌, true, true≢false}
use Rattle.std.proofs.lemmas.Result.{on_ok_weaker}
use Rattle.crs_base.specs.Seen.{entry_of}
use Rattle.crs_waiting.specs.declared.hooks.Hook.{Hook}
use Rattle.crs_waiting.specs.Charts.{ChartState}
use Rattle.crs_store.specs.Forkings.{AreForksBut}
use Rattle.crs_waiting.specs.Links.{hook_at}
use Rattle.crs_waiting.specs.Orders.{IsOvertaken, IsUnboundBefore}
use Rattle.crs_living.specs.Scannings.{AreForksAt}
use Rattle.crs_waiting.proofs.Next.{before_within}
use Rattle.crs_store.proofs.Overtaken.{none_forked, all_forked}
use Rattle.crs_store.proofs.Births.{brings_none, brings_as}
use Rattle.crs_store.proofs.scanning.candidates.push_forks.Goals as goal
use Rattle.crs_store.proofs.scanning.candidates.push_forks.Goals.{else-arrival-via-then-arrival+else-is_held_back, else-arrival-via-else-arrival}

pub is_held_back-requires : goal.is_held_back-requires
is_held_back-requires g c =
    let a = c.args.arrival.now in
    let hooks = a.hooks.now.events.items in
    let is = c.event_hook-hook.ensures ∙ ap (λ (s : ChartState). hook_at s.hooks.events.items c.args.event) c.chart-chart.ensures in
    before_within a.plan.now a.focus a.hooks.now.ranks.value.items hooks c.requires.arrival.order c.args.event c.event_hook-hook.result.now is _ c.requires.of.len

pub returns-then-is_held_back-clause-forks : goal.returns-then-is_held_back-clause-forks
returns-then-is_held_back-clause-forks g c =
    let a = c.args.arrival.now in
    let x = entry_of a.entry.now.value in
    let hooks = a.hooks.now.events.items in
    let is = c.event_hook-hook.ensures ∙ ap (λ (s : ChartState). hook_at s.hooks.events.items c.args.event) c.chart-chart.ensures in
    let back = subst (λ (h : Hook). IsUnboundBefore h c.args.instance.now.partial) is (c.is_held_back.ensures.0 c.if-is_held_back.true) in
    brings_none a.plan.now a.focus a.finds a.until (AreForksBut a.plan.now a.focus (IsOvertaken a.plan.now a.focus hooks a.skips x) a.history.now x a.since a.until c.args.instance.now c.args.event) c.args.out.now.instances.items c.args.out.now.found.items
    (none_forked a.plan.now a.focus a.hooks.now.ranks.value.items hooks c.requires.arrival.order a.history.now x a.since a.until c.args.instance.now c.requires.of.len c.args.event a.skips c.if-arrival.true back)

pub returns-clause-forks : goal.returns-clause-forks
returns-clause-forks g c =
    let a = c.args.arrival.now in
    let x = entry_of a.entry.now.value in
    let hooks = a.hooks.now.events.items in
    let is = c.event_hook-hook.ensures ∙ ap (λ (s : ChartState). hook_at s.hooks.events.items c.args.event) c.chart-chart.ensures in
    let free : a.skips ≡ true → IsUnboundBefore (hook_at hooks c.args.event) c.args.instance.now.partial → ⊥ = (λ skip back. elim c.else-arrival.branch [
      | else-arrival-via-then-arrival+else-is_held_back w ↦ true≢false (sym (w.is_held_back.ensures.1 (subst (λ (h : Hook). IsUnboundBefore h c.args.instance.now.partial) (sym is) back)) ∙ w.if-is_held_back.false)
      | else-arrival-via-else-arrival w ↦ true≢false (sym skip ∙ w.if-arrival.false)
    ]) in
    on_ok_weaker c.push_open_forks.result
    (brings_as a.plan.now a.focus a.finds a.until (AreForksAt a.plan.now a.focus a.history.now x a.since a.until c.args.instance.now c.args.event) (AreForksBut a.plan.now a.focus (IsOvertaken a.plan.now a.focus hooks a.skips x) a.history.now x a.since a.until c.args.instance.now c.args.event) c.args.out.now.instances.items c.push_open_forks.new.out.instances.items c.args.out.now.found.items c.push_open_forks.new.out.found.items
    (λ more d. all_forked a.plan.now a.focus a.hooks.now.ranks.value.items hooks c.requires.arrival.order a.history.now x a.since a.until c.args.instance.now c.requires.of.len c.args.event a.skips free more d))
    c.push_open_forks.ensures.forks
