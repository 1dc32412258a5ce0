use Rattle.std.proofs.Common.{◌<◌, subst, arith, List, ℕ, length}
use Rattle.crs_commands.specs.Drills.{SumsUp}
use Rattle.crs_commands.proofs.Drilled.{summed_up}
use Rattle.crs_commands.proofs.drilling.sum_up.Goals as goal

pub returns-in-Ok-summary_over-clause-told : goal.returns-in-Ok-summary_over-clause-told
returns-in-Ok-summary_over-clause-told g c = λ t f r.
    let below : length c.in-Ok.log.items < c.args.limit = omega (arith, c.len.ensures) in
    subst (λ (log : List ℕ). SumsUp c.args.session.now.layers.focus f c.args.limit log (g.D.Desk.told c.args.desk.now) c.write_summary.result (g.D.Desk.told c.write_summary.new.desk))
    c.in-Ok.ensures
    (summed_up c.args.session.now.layers.focus f c.args.limit c.in-Ok.log.items _ _ c.in-Ok-summary_over.summary _ below
    (rw c.as_slice.ensures.value at (c.in-Ok-summary_over.ensures f r)) (c.write_summary.ensures.told t))
