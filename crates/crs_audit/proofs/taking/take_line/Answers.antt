use Rattle.std.proofs.Common.{◌∙◌, refl, sym, ap, subst}
use Rattle.std.proofs.lemmas.Result.{IfOk-weaker}
use Rattle.crs_base.specs.SeenLines.{line_seen}
use Rattle.crs_log.specs.Run.{State, Outcome}
use Rattle.crs_log.specs.SeenItems.{what_seen}
use Rattle.crs_log.specs.ItemOf.{what_of}
use Rattle.crs_audit.specs.Ordered.{after_raw}
use Rattle.crs_audit.specs.Runs.{Takes, TakesAll, state_seen}
use Rattle.crs_audit.proofs.Items.{long_is, short_is, faulty_is}
use Rattle.crs_audit.proofs.Reading.{stays}
use Rattle.crs_audit.proofs.taking.take_line.Goals as goal

pub returns-then-is_long-clause-taken : goal.returns-then-is_long-clause-taken
returns-then-is_long-clause-taken c = λ s fits sound.
    stays s c.args.names.now c.args.limit c.args.symbols.now c.args.run.now fits sound _ _ _
    (long_is s (state_seen c.args.symbols.now.texts c.args.run.now) (line_seen c.args.line) (sym c.is_long.ensures ∙ c.if-is_long.true)) refl refl

pub returns-in-Ok-clause-taken : goal.returns-in-Ok-clause-taken
returns-in-Ok-clause-taken c =
    let x = c.args.run.now in
    let w = what_seen c.line_bytes-bytes.result.now c.in-Ok.item in
    IfOk-weaker c.take_item.result _
    (λ _. TakesAll c.args.names.now c.args.limit c.args.symbols.now c.take_item.new.symbols x c.take_item.new.run (λ s st. after_raw s st (line_seen c.args.line)))
    (λ _ h s fits sound. subst (λ (a : State × Outcome). Takes s c.args.names.now c.args.limit c.args.symbols.now c.take_item.new.symbols x c.take_item.new.run a)
    (short_is s (state_seen c.args.symbols.now.texts x) (line_seen c.args.line) w (sym c.is_long.ensures ∙ c.if-is_long.false) (c.in-Ok.ensures.exact ∙ ap what_of c.line_bytes-bytes.ensures))
    (h s fits sound))
    c.take_item.ensures.taken

pub returns-in-Err-Form-clause-taken : goal.returns-in-Err-Form-clause-taken
returns-in-Err-Form-clause-taken c = λ s fits sound.
    stays s c.args.names.now c.args.limit c.args.symbols.now c.args.run.now fits sound _ _ _
    (faulty_is s (state_seen c.args.symbols.now.texts c.args.run.now) (line_seen c.args.line) c.line_bytes-bytes.result.now (sym c.is_long.ensures ∙ c.if-is_long.false) c.line_bytes-bytes.ensures
    (rw c.in-Err-Form.field-0-is at c.in-Err-Form.ensures.err)) refl refl
