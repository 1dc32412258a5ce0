use Rattle.std.proofs.Common.{ap, length, codes, ◌^◌}
use Rattle.crs_commands.specs.Imports.{IsTableLog, IsTableLine}
use Rattle.crs_outcomes.specs.Inputs.{bytes_of}
use Rattle.crs_outcomes.specs.Loads.{IsTooLong}
use Rattle.crs_outcomes.proofs.Loads.{ends_weaker, ends_printed, all_taken}
use Rattle.crs_commands.proofs.Tables.{long_is_refused, ends_table}
use Rattle.crs_commands.proofs.table.import_table.Goals as goal

pub returns-in-Err-clause-told : goal.returns-in-Err-clause-told
returns-in-Err-clause-told g c = λ t.
    let table = bytes_of (g.D.Desk.told c.args.desk.now) c.args.table.now in
    ends_weaker (2 ^ 26) (λ text. ⊥) (IsTableLog table) (IsTooLong (2 ^ 26) (codes "table record 0 size\n") table) (IsTableLine table)
    (λ text p. absurd p) (λ text l. long_is_refused table text l) _ _ _ _ _ _ (c.in-Err.ensures.told t)

pub returns-in-Ok-import-clause-told : goal.returns-in-Ok-import-clause-told
returns-in-Ok-import-clause-told g c = λ t.
    let h = c.in-Ok.ensures.told t in
    let table = bytes_of (g.D.Desk.told c.args.desk.now) c.args.table.now in
    let p = rw (c.as_slice.ensures.value, h.2) at c.in-Ok-import.ensures.ok in
    ends_printed _ _ (2 ^ 26) (IsTableLog table) (IsTableLine table) _ _ (g.D.Desk.told c.load.new.desk) _ _ _ _ _
    (rw (← c.write_text.ensures.inputs) at h.1) (ap length h.2) (all_taken (2 ^ 26) table _ (ap length h.2) h.3) p
    (rw c.as_slice-in-Ok-import.ensures.value at (c.write_text.ensures.told t))

pub returns-clause-told : goal.returns-clause-told
returns-clause-told g c = λ t.
    let h = c.in-Ok.ensures.told t in
    let table = bytes_of (g.D.Desk.told c.args.desk.now) c.args.table.now in
    let p = rw (c.as_slice.ensures.value, h.2) at c.in-Err-import.ensures.err in
    ends_table _ _ _ (g.D.Desk.told c.load.new.desk) _ _ _ _ (rw (← c.refuse_table.ensures.inputs) at h.1) (all_taken (2 ^ 26) table _ (ap length h.2) h.3) _ _ p
    (c.refuse_table.ensures.told t)
