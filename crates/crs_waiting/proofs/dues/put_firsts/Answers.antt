use Rattle.std.proofs.Common.{rules}
use Rattle.crs_waiting.proofs.DuePairs.{firsts_next, all_firsts}
use Rattle.crs_waiting.proofs.dues.put_firsts.Goals as goal

pub loop-event-preserved : goal.loop-event-preserved
loop-event-preserved c =
    firsts_next c.args.chart.now.plan c.args.chart.now.focus c.args.instance.now c.args.handle c.args.since c.loop-event.event c.args.calendar.now c.loop-event.calendar c.put_first.new.calendar c.loop-event.invariant ((c.in_ok-put_first.ensures {u = tt}).put) c.put_first.ensures.kept c.put_first.ensures.stood

pub returns-clause-put : goal.returns-clause-put
returns-clause-put c = all_firsts c.args.chart.now.plan c.args.chart.now.focus c.args.instance.now c.args.handle c.args.since c.loop-event.event c.args.calendar.now c.loop-event.calendar c.loop-event.invariant (let a = c.requires.of.len in let b = c.loop-event-test.false in search (rules, a, b))

pub returns-in_err-put_first-clause-kept : goal.returns-in_err-put_first-clause-kept
returns-in_err-put_first-clause-kept c = λ t i. c.put_first.ensures.kept t (c.loop-event.invariant.kept t i)
