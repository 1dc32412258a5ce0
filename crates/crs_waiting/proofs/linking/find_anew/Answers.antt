use Rattle.std.proofs.Common.{ℕ, subst}
use Rattle.std.specs.Prelude.{Some}
use Rattle.crs_waiting.specs.Links.{linked_by, IsLinkedAnew}
use Rattle.crs_waiting.proofs.Linked.{linked_still, none_linked, none_armed}
use Rattle.crs_waiting.proofs.linking.find_anew.Goals as goal

pub returns-then-since-h-clause-linked : goal.returns-then-since-h-clause-linked
returns-then-since-h-clause-linked c = none_linked c.args.chart.now.plan c.args.chart.now.focus c.args.waiting.now c.args.handle c.args.h c.args.instance.now c.args.chart.now.hooks.events.items c.args.since c.if-since-h.true

pub returns-then-since-h-clause-armed : goal.returns-then-since-h-clause-armed
returns-then-since-h-clause-armed c = none_armed c.args.chart.now.plan c.args.chart.now.focus c.args.waiting.now c.args.handle c.args.h c.args.instance.now c.args.chart.now.hooks.windows.items c.args.since c.if-since-h.true

pub returns-in_err-arm_windows-clause-grown : goal.returns-in_err-arm_windows-clause-grown
returns-in_err-arm_windows-clause-grown c = λ k h w. c.arm_windows.ensures.grown k h (c.link_events.ensures.grown k h w)

pub returns-clause-grown : goal.returns-clause-grown
returns-clause-grown c = λ k h w. c.arm_windows.ensures.grown k h (c.link_events.ensures.grown k h w)

pub returns-clause-linked : goal.returns-clause-linked
returns-clause-linked c =
    linked_still c.args.chart.now.plan c.args.chart.now.focus c.args.chart.now.hooks.events.items c.link_events.new.waiting c.arm_windows.new.waiting c.args.handle (Some (linked_by c.args.chart.now.plan c.args.since)) (linked_by c.args.chart.now.plan c.args.h) c.args.instance.now c.arm_windows.ensures.grown
    (subst (λ (n : ℕ). IsLinkedAnew c.args.chart.now.plan c.args.chart.now.focus c.args.chart.now.hooks.events.items c.link_events.new.waiting c.args.handle (Some n) (linked_by c.args.chart.now.plan c.args.h) c.args.instance.now) c.linked_by-linked.ensures
    (subst (λ (n : ℕ). IsLinkedAnew c.args.chart.now.plan c.args.chart.now.focus c.args.chart.now.hooks.events.items c.link_events.new.waiting c.args.handle (Some c.linked_by-linked.result) n c.args.instance.now) c.linked_by.ensures ((c.in_ok-link_events.ensures {u = tt}).linked)))
