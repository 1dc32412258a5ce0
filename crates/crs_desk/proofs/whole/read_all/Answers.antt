use Rattle.std.proofs.Common.{rules, refl, arith}
use Rattle.std.proofs.lemmas.Grind.{common_steps}
use Rattle.std.proofs.lemmas.List.{take-append-le}
use Rattle.std.proofs.lemmas.Result.{err_from_is_err_and}
use Rattle.crs_desk.proofs.Taking.{taken_none, taken_more, after_failed, after_refused, stopped, too_long, at_end}
use Rattle.crs_desk.proofs.whole.read_all.Goals as goal

pub loop-buf-init : goal.loop-buf-init
loop-buf-init g c = record {
  inputs = refl;
  reading = omega arith;
  writing = omega arith;
  few = search rules;
  told = λ t. rw c.new-bytes.ensures.items (taken_none _ _ _);
}

pub returns-in-Err-Failed-clause-told : goal.returns-in-Err-Failed-clause-told
returns-in-Err-Failed-clause-told g c = λ t.
    after_failed _ (g.D.Desk.told c.loop-buf.desk) _ _ _ _ _ (omega (arith, g.met.D.Desk.places c.args.desk.now t)) (c.loop-buf.invariant.told t)
    (rw c.in-Err-Failed.field-0-is at (c.in-Err-Failed.ensures.told t)) (omega arith) (grind (arith, common_steps))

pub returns-in-Err-Memory-clause-told : goal.returns-in-Err-Memory-clause-told
returns-in-Err-Memory-clause-told g c = λ t.
    after_refused _ (g.D.Desk.told c.loop-buf.desk) _ _ _ _ _ (c.loop-buf.invariant.told t)
    (rw c.in-Err-Memory.field-0-is at (c.in-Err-Memory.ensures.told t)) (omega arith)

pub returns-then-count-eq0-clause-told : goal.returns-then-count-eq0-clause-told
returns-then-count-eq0-clause-told g c = λ t.
    at_end _ (g.D.Desk.told c.loop-buf.desk) _ _ _ _ _ _ (omega (arith, g.met.D.Desk.places c.args.desk.now t)) (c.loop-buf.invariant.told t)
    (c.in-Ok.ensures.told t) c.if-count-eq0.true (omega arith) (grind (arith, common_steps))

pub loop-buf-preserved : goal.loop-buf-preserved
loop-buf-preserved g c = record {
  inputs = search rules;
  reading = omega arith;
  writing = omega arith;
  few = grind (arith, common_steps, c.in_ok-extend_from_slice.ensures.items, c.in-Ok.ensures.count);
  told = λ t. rw c.in_ok-extend_from_slice.ensures.items (taken_more _ (g.D.Desk.told c.loop-buf.desk) _ _ _ _ _ _ _ (omega (arith, g.met.D.Desk.places c.args.desk.now t)) (c.loop-buf.invariant.told t)
      (c.in-Ok.ensures.told t) (omega arith) (take-append-le _ _ _ c.in-Ok.ensures.count) c.in-Ok.ensures.count (grind (arith, common_steps)));
}

pub returns-in_err-extend_from_slice-clause-told : goal.returns-in_err-extend_from_slice-clause-told
returns-in_err-extend_from_slice-clause-told g c = λ t.
    let p = err_from_is_err_and c.from_residual.result c.from_residual.ensures.1 in
    let h = taken_more _ (g.D.Desk.told c.loop-buf.desk) _ _ _ _ _ _ _ (omega (arith, g.met.D.Desk.places c.args.desk.now t)) (c.loop-buf.invariant.told t)
    (c.in-Ok.ensures.told t) (omega arith) refl c.in-Ok.ensures.count (grind (arith, common_steps)) in
    rw (p.1, p.2) (stopped _ _ _ _ _ h (grind (arith, common_steps, c.in-Ok.ensures.count)))

pub returns-clause-told : goal.returns-clause-told
returns-clause-told g c = λ t. too_long _ _ _ _ _ (c.loop-buf.invariant.told t) (omega arith)
