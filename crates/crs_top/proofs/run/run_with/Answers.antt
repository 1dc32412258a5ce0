use Rattle.std.proofs.Common.{◌⊎◌, ◌∙◌, ap, sym, subst, inl, inr, Bool, List, map, string_bytes}
use Rattle.crs_desk.specs.Desk.{Rose}
use Rattle.crs_words.proofs.Bounds.{drill_bounds, logs_bounds}
use Rattle.std.proofs.Common.{arith}
use Rattle.std.proofs.lemmas.List.{length-map}
use Rattle.crs_rounds.proofs.FeedRuns.{completes_feeds}
use Rattle.crs_words.specs.Commands.{command_of}
use Rattle.crs_report.specs.Listeners.{Member, keep_members}
use Rattle.crs_commands.specs.Logs.{tail_of}
use Rattle.crs_outcomes.specs.Most.{most_of}
use Rattle.crs_commands.specs.RunOutcomes.{Runs}
use Rattle.crs_commands.proofs.Completes.{completes, completes_print, completes_import, completes_audit}
use Rattle.crs_commands.proofs.Drilled.{completes_drill}
use Rattle.crs_top.proofs.Wanting.{wants, wants_left}
use Rattle.crs_top.proofs.run.run_with.Goals as goal

pub returns-in-Err-clause-told : goal.returns-in-Err-clause-told
returns-in-Err-clause-told g c = λ t.
    wants (g.D.Desk.inputs c.args.desk.now) (most_of c.args.limits)
    (map (λ b. ((goal.Listener-dyn g (b.vtable, b.value)).kind b.value, (goal.Listener-dyn g (b.vtable, b.value)).figures b.value)) c.args.listeners.items)
    (g.D.Desk.told c.args.desk.now) (command_of (map string_bytes c.args.words.now))

pub returns-in-Err-clause-complete : goal.returns-in-Err-clause-complete
returns-in-Err-clause-complete g c = λ t. wants_left (most_of c.args.limits) (g.D.Desk.told c.args.desk.now) (command_of (map string_bytes c.args.words.now)) _

pub returns-in-Ok-None-clause-told : goal.returns-in-Ok-None-clause-told
returns-in-Ok-None-clause-told g c = λ t.
    let asked = rw c.in-Ok-None.field-0-is at c.in-Ok-None.ensures in
    rw (sym asked) (rw c.usage_text.ensures at (c.write_text.ensures.told t), c.write_text.ensures.inputs)

pub returns-in-Ok-Some-Run-clause-told : goal.returns-in-Ok-Some-Run-clause-told
returns-in-Ok-Some-Run-clause-told g c = λ t.
    let asked = rw (c.in-Ok-Some-Run.field-0-is, c.in-Ok-Some-Run.field-0-0-is) at c.in-Ok-Some-Run.ensures in
    let kept = c.keep_kinds.ensures ∙ ap (λ (chosen : List Bool). keep_members chosen (map (λ b. ((goal.Listener-dyn g (b.vtable, b.value)).kind b.value, (goal.Listener-dyn g (b.vtable, b.value)).figures b.value)) c.args.listeners.items)) c.kinds.ensures in
    rw (sym asked) (subst (λ (members : List Member). Runs (g.D.Desk.inputs c.args.desk.now) (g.D.Desk.inputs c.recognise.new.desk)
    c.in-Ok-Some-Run.cite (tail_of c.in-Ok-Some-Run.focus c.in-Ok-Some-Run.summary members) (most_of c.args.limits) (g.D.Desk.told c.args.desk.now) c.in-Ok-Some-Run.models.now
    c.in-Ok-Some-Run.log.now c.recognise.result (g.D.Desk.told c.recognise.new.desk)) kept (c.recognise.ensures.told t))

pub returns-in-Ok-Some-Run-clause-complete : goal.returns-in-Ok-Some-Run-clause-complete
returns-in-Ok-Some-Run-clause-complete g c = λ t.
    let asked = rw (c.in-Ok-Some-Run.field-0-is, c.in-Ok-Some-Run.field-0-0-is) at c.in-Ok-Some-Run.ensures in
    rw (sym asked) (completes (g.D.Desk.inputs c.args.desk.now) (g.D.Desk.inputs c.recognise.new.desk) _ _
    (most_of c.args.limits)
    (g.D.Desk.told c.args.desk.now) (g.D.Desk.told c.recognise.new.desk) c.in-Ok-Some-Run.models.now c.in-Ok-Some-Run.log.now
    (Rose (g.D.Desk.in_faults c.args.desk.now) (g.D.Desk.in_faults c.recognise.new.desk)
    ⊎ Rose (g.D.Desk.out_faults c.args.desk.now) (g.D.Desk.out_faults c.recognise.new.desk)) c.recognise.result
    (c.recognise.ensures.told t) (λ e. inl (c.recognise.ensures.causes.read_fault e)) (λ e. inr (c.recognise.ensures.causes.write_fault e)))

pub returns-in-Ok-Some-Print-clause-complete : goal.returns-in-Ok-Some-Print-clause-complete
returns-in-Ok-Some-Print-clause-complete g c = λ t.
    let asked = rw (c.in-Ok-Some-Print.field-0-is, c.in-Ok-Some-Print.field-0-0-is) at c.in-Ok-Some-Print.ensures in
    rw (sym asked) (completes_print (g.D.Desk.inputs c.args.desk.now) (g.D.Desk.inputs c.print.new.desk) c.args.limits.symbols
    c.in-Ok-Some-Print.listing (g.D.Desk.told c.args.desk.now) (g.D.Desk.told c.print.new.desk) c.in-Ok-Some-Print.models.now
    (Rose (g.D.Desk.in_faults c.args.desk.now) (g.D.Desk.in_faults c.print.new.desk)
    ⊎ Rose (g.D.Desk.out_faults c.args.desk.now) (g.D.Desk.out_faults c.print.new.desk)) c.print.result
    (c.print.ensures.told t) (λ e. inl (c.print.ensures.causes.read_fault e)) (λ e. inr (c.print.ensures.causes.write_fault e)))

pub drill-requires : goal.drill-requires
drill-requires g c =
    let asked = rw (c.in-Ok-Some-Drill.field-0-is, c.in-Ok-Some-Drill.field-0-0-is) at c.in-Ok-Some-Drill.ensures in
    let b = drill_bounds (map string_bytes c.args.words.now) c.in-Ok-Some-Drill.focus c.in-Ok-Some-Drill.seed c.in-Ok-Some-Drill.lines (sym asked) in
    record { least = b.least; most = b.most; lines = b.few }

pub returns-in-Ok-Some-Drill-clause-told : goal.returns-in-Ok-Some-Drill-clause-told
returns-in-Ok-Some-Drill-clause-told g c = λ t.
    let asked = rw (c.in-Ok-Some-Drill.field-0-is, c.in-Ok-Some-Drill.field-0-0-is) at c.in-Ok-Some-Drill.ensures in
    rw (sym asked) (c.drill.ensures.told t, c.drill.ensures.inputs)

pub returns-in-Ok-Some-Drill-clause-complete : goal.returns-in-Ok-Some-Drill-clause-complete
returns-in-Ok-Some-Drill-clause-complete g c = λ t.
    let asked = rw (c.in-Ok-Some-Drill.field-0-is, c.in-Ok-Some-Drill.field-0-0-is) at c.in-Ok-Some-Drill.ensures in
    rw (sym asked) (completes_drill c.in-Ok-Some-Drill.focus (most_of c.args.limits) c.in-Ok-Some-Drill.seed c.in-Ok-Some-Drill.lines (g.D.Desk.told c.args.desk.now)
    (g.D.Desk.told c.drill.new.desk)
    (Rose (g.D.Desk.in_faults c.args.desk.now) (g.D.Desk.in_faults c.drill.new.desk)
    ⊎ Rose (g.D.Desk.out_faults c.args.desk.now) (g.D.Desk.out_faults c.drill.new.desk)) c.drill.result
    (λ e. inr (c.drill.ensures.causes.write_fault e)) (c.drill.ensures.told t))

pub returns-in-Ok-Some-Import-clause-complete : goal.returns-in-Ok-Some-Import-clause-complete
returns-in-Ok-Some-Import-clause-complete g c = λ t.
    let asked = rw (c.in-Ok-Some-Import.field-0-is, c.in-Ok-Some-Import.field-0-0-is) at c.in-Ok-Some-Import.ensures in
    rw (sym asked) (completes_import (g.D.Desk.inputs c.args.desk.now) (g.D.Desk.inputs c.import_table.new.desk)
    (g.D.Desk.told c.args.desk.now) (g.D.Desk.told c.import_table.new.desk) c.in-Ok-Some-Import.table.now
    (Rose (g.D.Desk.in_faults c.args.desk.now) (g.D.Desk.in_faults c.import_table.new.desk)
    ⊎ Rose (g.D.Desk.out_faults c.args.desk.now) (g.D.Desk.out_faults c.import_table.new.desk)) c.import_table.result
    (c.import_table.ensures.told t) (λ e. inl (c.import_table.ensures.causes.read_fault e)) (λ e. inr (c.import_table.ensures.causes.write_fault e)))

pub returns-clause-told : goal.returns-clause-told
returns-clause-told g c = λ t.
    let asked = rw (c.in-Ok-Some-Audit.field-0-is, c.in-Ok-Some-Audit.field-0-0-is) at c.in-Ok-Some-Audit.ensures in
    rw (sym asked) (c.audit_output.ensures.told t)

pub returns-clause-complete : goal.returns-clause-complete
returns-clause-complete g c = λ t.
    let asked = rw (c.in-Ok-Some-Audit.field-0-is, c.in-Ok-Some-Audit.field-0-0-is) at c.in-Ok-Some-Audit.ensures in
    rw (sym asked) (completes_audit (g.D.Desk.inputs c.args.desk.now) (g.D.Desk.inputs c.audit_output.new.desk) (most_of c.args.limits)
    (g.D.Desk.told c.args.desk.now) (g.D.Desk.told c.audit_output.new.desk) c.in-Ok-Some-Audit.models.now c.in-Ok-Some-Audit.log.now c.in-Ok-Some-Audit.output.now
    (Rose (g.D.Desk.in_faults c.args.desk.now) (g.D.Desk.in_faults c.audit_output.new.desk)
    ⊎ Rose (g.D.Desk.out_faults c.args.desk.now) (g.D.Desk.out_faults c.audit_output.new.desk)) c.audit_output.result
    (c.audit_output.ensures.told t) (λ e. inl (c.audit_output.ensures.causes.read_fault e)) (λ e. inr (c.audit_output.ensures.causes.write_fault e)))

pub recognise_feeds-requires-clause-least : goal.recognise_feeds-requires-clause-least
recognise_feeds-requires-clause-least g c =
    let asked = rw (c.in-Ok-Some-Feeds.field-0-is, c.in-Ok-Some-Feeds.field-0-0-is) at c.in-Ok-Some-Feeds.ensures in
    let logs = c.in-Ok-Some-Feeds.logs.items in
    let b = logs_bounds (map string_bytes c.args.words.now) c.in-Ok-Some-Feeds.focus c.in-Ok-Some-Feeds.models.now (map (λ l. l.now) logs) (sym asked) in
    rw (c.as_slice.ensures.value) (omega (arith, b.0, length-map logs (λ l. l.now)))

pub recognise_feeds-requires-clause-most : goal.recognise_feeds-requires-clause-most
recognise_feeds-requires-clause-most g c =
    let asked = rw (c.in-Ok-Some-Feeds.field-0-is, c.in-Ok-Some-Feeds.field-0-0-is) at c.in-Ok-Some-Feeds.ensures in
    let logs = c.in-Ok-Some-Feeds.logs.items in
    let b = logs_bounds (map string_bytes c.args.words.now) c.in-Ok-Some-Feeds.focus c.in-Ok-Some-Feeds.models.now (map (λ l. l.now) logs) (sym asked) in
    rw (c.as_slice.ensures.value) (omega (arith, b.1, length-map logs (λ l. l.now)))

pub returns-in-Ok-Some-Feeds-clause-told : goal.returns-in-Ok-Some-Feeds-clause-told
returns-in-Ok-Some-Feeds-clause-told g c = λ t.
    let asked = rw (c.in-Ok-Some-Feeds.field-0-is, c.in-Ok-Some-Feeds.field-0-0-is) at c.in-Ok-Some-Feeds.ensures in
    rw (sym asked) (rw c.as_slice.ensures.value at (c.recognise_feeds.ensures.told t))

pub returns-in-Ok-Some-Feeds-clause-complete : goal.returns-in-Ok-Some-Feeds-clause-complete
returns-in-Ok-Some-Feeds-clause-complete g c = λ t.
    let asked = rw (c.in-Ok-Some-Feeds.field-0-is, c.in-Ok-Some-Feeds.field-0-0-is) at c.in-Ok-Some-Feeds.ensures in
    rw (sym asked) (completes_feeds (g.D.Desk.inputs c.args.desk.now) (g.D.Desk.inputs c.recognise_feeds.new.desk) (most_of c.args.limits)
    (g.D.Desk.told c.args.desk.now) (g.D.Desk.told c.recognise_feeds.new.desk) c.in-Ok-Some-Feeds.models.now (map (λ l. l.now) c.in-Ok-Some-Feeds.logs.items)
    (Rose (g.D.Desk.in_faults c.args.desk.now) (g.D.Desk.in_faults c.recognise_feeds.new.desk)
    ⊎ Rose (g.D.Desk.out_faults c.args.desk.now) (g.D.Desk.out_faults c.recognise_feeds.new.desk)) c.recognise_feeds.result
    (rw c.as_slice.ensures.value at (c.recognise_feeds.ensures.told t)) (λ e. inl (c.recognise_feeds.ensures.causes.read_fault e)) (λ e. inr (c.recognise_feeds.ensures.causes.write_fault e)))
