use Rattle.crs_log.proofs.Places.{argument_led, argument_ends}
use Rattle.crs_log.proofs.items.walk.arguments.Goals as goal

pub returns-in-Some-mark : goal.returns-in-Some-mark
returns-in-Some-mark c =
    let l = c.loop-span in
    argument_ends c.args.line.now c.args.at l.i c.end_of.result c.in-Some-mark.end l.args c.push.new.self c.in-Some.span c.in_ok-push.ensures.ok l.invariant.tokens l.invariant.symbols c.in-Some.ensures c.end_of.ensures c.in-Some-mark.ensures

pub loop-span-preserved : goal.loop-span-preserved
loop-span-preserved c =
    let l = c.loop-span in
    let k =
    argument_led c.args.line.now c.args.at l.i c.end_of-in-Some.result c.in-Some-mark-2.next l.args c.push.new.self c.in-Some.span c.in_ok-push.ensures.ok l.invariant.tokens l.invariant.symbols c.in-Some.ensures c.end_of-in-Some.ensures c.in-Some-mark-2.ensures in
    record { tokens = k.0; symbols = k.1; within = c.in-Some-mark-2.ensures.within }
