use Rattle.std.proofs.Common.{rules, refl}
use Rattle.crs_waiting.proofs.DuePairs.{around_none, put_next, all_put, put_start_of}
use Rattle.crs_waiting.proofs.dues.put_dues.Goals as goal

pub returns-in_err-last-clause-kept : goal.returns-in_err-last-clause-kept
returns-in_err-last-clause-kept c = λ t i. c.put_window_dues.ensures.kept t (c.loop-k.invariant.0.kept t i)

pub loop-k-preserved : goal.loop-k-preserved
loop-k-preserved c =
    let put = c.in_ok-last.ensures {u = tt} in (
      put_next c.args.chart.now.plan c.args.chart.now.focus c.args.instance.now c.args.handle c.args.date c.loop-k.k c.args.calendar.now c.loop-k.calendar c.put_window_dues.new.calendar c.loop-k.invariant.0 put.put c.put_window_dues.ensures.kept c.put_window_dues.ensures.stood,
      put.last,
    )

pub returns-clause-put : goal.returns-clause-put
returns-clause-put c = all_put c.args.chart.now.plan c.args.chart.now.focus c.args.instance.now c.args.handle c.args.date c.loop-k.k c.args.calendar.now c.loop-k.calendar c.loop-k.invariant.0 (search rules)

pub loop-k-init : goal.loop-k-init
loop-k-init c =
    let put = c.in_ok-put_event_dues.ensures {u = tt} in (
      put_start_of c.args.chart.now.plan c.args.chart.now.focus c.args.instance.now c.args.handle c.args.date c.args.calendar.now c.put_event_dues.new.calendar put.deadline put.firsts c.put_event_dues.ensures.kept c.put_event_dues.ensures.stood,
      around_none c.args.chart.now.plan c.args.instance.now c.args.handle c.args.date _ refl refl c.put_event_dues.new.calendar.pairs,
    )
