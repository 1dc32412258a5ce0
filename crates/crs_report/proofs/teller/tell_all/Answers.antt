use Rattle.std.proofs.Common.{◌+◌, arith}
use Rattle.std.proofs.lemmas.Grind.{common_steps}
use Rattle.std.proofs.lemmas.Result.{err_from_is_err_and}
use Rattle.crs_report.proofs.Members.{staying, leaving, stopping}
use Rattle.crs_report.proofs.teller.tell_all.Goals as goal

pub loop-i-preserved-in-Stay : goal.loop-i-preserved-in-Stay
loop-i-preserved-in-Stay g c =
    let t = c.in_ok-tell_one.ensures in
    record {
      within = grind (arith, common_steps);
      told = (
        c.loop-i.invariant.told.0 + 1,
        staying (λ b. (goal.Listener-dyn g (b.vtable, b.value)).kind b.value) (λ b. (goal.Listener-dyn g (b.vtable, b.value)).figures b.value) _ _ _ _ _ c.index_mut.result.now _ _
            c.loop-i.invariant.told.1 (omega arith) c.index_mut.ensures.value t.kind t.figures t.next c.in-Stay.is,
      );
    }

pub loop-i-preserved : goal.loop-i-preserved
loop-i-preserved g c =
    let t = c.in_ok-tell_one.ensures in
    record {
      within = grind (arith, common_steps);
      told = (
        c.loop-i.invariant.told.0 + 1,
        rw c.remove.ensures.items (leaving (λ b. (goal.Listener-dyn g (b.vtable, b.value)).kind b.value) (λ b. (goal.Listener-dyn g (b.vtable, b.value)).figures b.value) _ _ _ _ _ c.index_mut.result.now _ _
            c.loop-i.invariant.told.1 (omega arith) c.index_mut.ensures.value t.kind t.figures t.next c.in-Leave.is),
      );
    }

pub returns-in_err-tell_one-clause-err : goal.returns-in_err-tell_one-clause-err
returns-in_err-tell_one-clause-err g c =
    let p = err_from_is_err_and c.from_residual.result c.from_residual.ensures.1 in
    rw p.1 (
      c.loop-i.invariant.told.0,
      stopping (λ b. (goal.Listener-dyn g (b.vtable, b.value)).kind b.value) (λ b. (goal.Listener-dyn g (b.vtable, b.value)).figures b.value) _ _ _ _ _ c.index_mut.result.now _
          c.loop-i.invariant.told.1 (omega arith) c.index_mut.ensures.value c.in_err-tell_one.ensures.kind c.in_err-tell_one.ensures.err,
    )
