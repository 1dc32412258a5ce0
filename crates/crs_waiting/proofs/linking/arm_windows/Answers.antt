use Rattle.std.proofs.Common.{rules}
use Rattle.crs_waiting.proofs.Linked.{armed_next, all_armed}
use Rattle.crs_waiting.proofs.linking.arm_windows.Goals as goal

pub returns-in_err-arm_window-clause-grown : goal.returns-in_err-arm_window-clause-grown
returns-in_err-arm_window-clause-grown c = λ k h w. c.arm_window.ensures.grown k h (c.loop-k.invariant.grown k h w)

pub loop-k-preserved : goal.loop-k-preserved
loop-k-preserved c = armed_next c.args.chart.now.plan c.args.chart.now.hooks.windows.items c.args.handle c.args.since c.args.h c.args.instance.now c.loop-k.k c.args.waiting.now c.loop-k.waiting c.arm_window.new.waiting c.loop-k.invariant c.arm_window.ensures.grown ((c.in_ok-arm_window.ensures {u = tt}).armed)

pub returns-clause-armed : goal.returns-clause-armed
returns-clause-armed c = all_armed c.args.chart.now.plan c.args.chart.now.hooks.windows.items c.args.handle c.args.since c.args.h c.args.instance.now c.loop-k.k c.args.waiting.now c.loop-k.waiting c.loop-k.invariant (search rules)
