use Rattle.std.proofs.Common.{map, arith}
use Rattle.crs_base.specs.Entry.{more_text}
use Rattle.crs_log.specs.SeenItems.{text_of}
use Rattle.crs_log.proofs.Whole.{more_step, more_ends}
use Rattle.crs_log.proofs.entries.whole.more_end.Goals as goal

pub loop-arg-preserved : goal.loop-arg-preserved
loop-arg-preserved c =
    let l = c.loop-arg in
    record {
      text =
          more_step c.args.line.now c.args.at l.end l.arg-index c.end_of-end.result c.args.args.now l.invariant.onward (more_text (map (text_of c.args.line.now) c.args.args.now)) l.invariant.text
          (c.has.ensures.within c.if-not-has.false) c.loop-arg-test.true (c.has.ensures.byte c.if-not-has.false) c.if-arg-end.false c.end_of-end.ensures;
      onward = omega arith;
    }

pub returns-then-has-clause-text : goal.returns-then-has-clause-text
returns-then-has-clause-text c =
    let l = c.loop-arg in
    more_ends c.args.line.now c.args.at l.end l.arg-index l.end c.args.args.now l.invariant.onward (more_text (map (text_of c.args.line.now) c.args.args.now)) l.invariant.text
    (c.has-2.ensures.within c.if-has.true) c.loop-arg-test.false (c.has-2.ensures.byte c.if-has.true)
