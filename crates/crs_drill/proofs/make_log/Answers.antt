use Rattle.std.proofs.Common.{arith, ◌≡◌, ◌∙◌}
use Rattle.crs_drill.proofs.Lines.{one_more, no_more}
use Rattle.crs_drill.proofs.make_log.Goals as goal

pub loop-k-preserved : goal.loop-k-preserved
loop-k-preserved c = record {
  text = one_more c.loop-k.k c.args.n c.loop-k.drill c.push_line.new.self c.loop-k.out.items c.push_line.new.out.items c.push_clock.new.out.items _ c.loop-k-test.true c.loop-k.invariant.text c.in_ok-push_line.ensures.text c.push_line.ensures.state (c.in_ok-push_clock.ensures {u = tt});
  base = omega (arith, c.push_line.ensures.bounded);
}

pub returns : goal.returns
returns c =
    let last : c.args.n ≡ c.loop-k.k = omega arith in
    (c.in_ok-push_bytes-2.ensures {u = tt}) ∙ no_more c.loop-k.k c.args.n c.loop-k.drill c.loop-k.out.items _ last c.loop-k.invariant.text
