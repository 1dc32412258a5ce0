use Rattle.std.proofs.Common.{◌≡◌, ◌-◌, arith}
use Rattle.std.proofs.Common.{Less}
use Rattle.crs_buffer.specs.declared.held.Held.{Held}
use Rattle.crs_buffer.specs.HeldOrder.{held_cmp}
use Rattle.crs_buffer.proofs.Queued.{dropped_one}
use Rattle.crs_buffer.proofs.queue.place_of.Goals as goal

pub loop-left-preserved : goal.loop-left-preserved
loop-left-preserved c =
    let some = c.if-place-gt0.true in
    let within = c.loop-left.invariant.within in
    record {
      within = omega arith;
      after = dropped_one (λ (y : Held). held_cmp c.args.held.now y ≡ Less) c.args.queue.now.items (c.loop-left.place - 1)
          c.loop-left.place (omega arith) (omega arith) (c.is_before.ensures c.if-not-is_before.false) c.loop-left.invariant.after;
    }
