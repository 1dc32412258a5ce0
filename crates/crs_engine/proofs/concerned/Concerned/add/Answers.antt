use Rattle.std.proofs.Common.{rules}
use Rattle.crs_engine.proofs.Noted.{looking_on, all_kept, known_by}
use Rattle.crs_engine.proofs.concerned.Concerned.add.Goals as goal

pub returns-clause-kept : goal.returns-clause-kept
returns-clause-kept c =
    all_kept c.args.self.now (record { looking = c.note_windows.new.looking; prompt = c.with_prompt-self.result }) (looking_on c.args.self.now.looking.items c.note_events.new.looking.items c.note_windows.new.looking.items ((c.in_ok-note_events.ensures {u = tt}).kept) ((c.in_ok-note_windows.ensures {u = tt}).kept))
    c.with_prompt-self.ensures.kept

pub returns-clause-known : goal.returns-clause-known
returns-clause-known c =
    known_by (record { looking = c.note_windows.new.looking; prompt = c.with_prompt-self.result }) c.args.plan.now c.args.number c.note_events.new.looking.items c.as_slice.result.now c.as_slice-2.result.now (search rules) (search rules)
    c.with_prompt-self.ensures.set ((c.in_ok-note_events.ensures {u = tt}).noted) ((c.in_ok-note_windows.ensures {u = tt}).kept) ((c.in_ok-note_windows.ensures {u = tt}).noted)
