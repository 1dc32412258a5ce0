use Rattle.std.proofs.Common.{map, string_bytes}
use Rattle.crs_top.proofs.Unrefused.{unrefused}
use Rattle.crs_top.proofs.run.run_program.Goals as goal

pub returns-clause-unrefused : goal.returns-clause-unrefused
returns-clause-unrefused g c = λ t.
    unrefused (g.D.Desk.inputs c.args.desk.now) (g.D.Desk.inputs c.run_with.new.desk)
    (map (λ b. ((goal.Listener-dyn g (b.vtable, b.value)).kind b.value, (goal.Listener-dyn g (b.vtable, b.value)).figures b.value)) c.args.listeners.items)
    (g.D.Desk.told c.args.desk.now)
    (g.D.Desk.told c.run_with.new.desk) (map string_bytes c.args.words.now) c.run_with.result (c.run_with.ensures.told t)
