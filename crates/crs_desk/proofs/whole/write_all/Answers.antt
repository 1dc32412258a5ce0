use Rattle.std.proofs.Common.{rules, arith}
use Rattle.crs_desk.proofs.Calls.{wrote_more}
use Rattle.crs_desk.proofs.whole.write_all.Goals as goal

pub loop-done-preserved : goal.loop-done-preserved
loop-done-preserved g c = record {
  inputs = search rules;
  reading = omega arith;
  writing = omega arith;
  within = omega (arith, c.in_ok-count.ensures.most);
  told = λ t. wrote_more _ (g.D.Desk.told c.loop-done.desk) _ _ _ _ (c.loop-done.invariant.told t)
      (rw c.split_at.ensures.back at c.in_ok-count.ensures.most) (rw c.split_at.ensures.back at (c.in_ok-count.ensures.told t));
}
