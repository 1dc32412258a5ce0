use Rattle.std.proofs.Common.{◌∙◌, refl, sym, subst}
use Rattle.std.proofs.lemmas.Result.{IfOk-weaker}
use Rattle.crs_log.specs.Run.{State, Outcome, after_what}
use Rattle.crs_log.specs.SeenItems.{what_seen}
use Rattle.crs_audit.specs.Runs.{Takes, TakesAll, state_seen}
use Rattle.crs_audit.proofs.Items.{in_order, out_of_order, blank_passes, not_faulty}
use Rattle.crs_audit.proofs.Reading.{stays}
use Rattle.crs_audit.proofs.taking.take_item.Goals as goal

pub returns-then-is_blank-clause-taken : goal.returns-then-is_blank-clause-taken
returns-then-is_blank-clause-taken c = λ s fits sound.
    stays s c.args.names.now c.args.limit c.args.symbols.now c.args.run.now fits sound _ _ _
    (blank_passes s (state_seen c.args.symbols.now.texts c.args.run.now) (what_seen c.args.line.now c.args.item) (sym (c.is_blank.ensures c.args.line.now) ∙ c.if-is_blank.true)) refl refl

pub returns-then-run-clause-taken : goal.returns-then-run-clause-taken
returns-then-run-clause-taken c = λ s fits sound.
    let x = c.args.run.now in
    stays s c.args.names.now c.args.limit c.args.symbols.now x fits sound _ _ _
    (out_of_order s (state_seen c.args.symbols.now.texts x) (what_seen c.args.line.now c.args.item) (sym (c.is_blank.ensures c.args.line.now) ∙ c.if-is_blank.false) c.if-run.true (not_faulty c.args.line.now c.args.item)) refl refl

pub returns-clause-taken : goal.returns-clause-taken
returns-clause-taken c =
    let x = c.args.run.now in
    let w = what_seen c.args.line.now c.args.item in
    IfOk-weaker c.take_ordered.result _
    (λ _. TakesAll c.args.names.now c.args.limit c.args.symbols.now c.take_ordered.new.symbols x c.take_ordered.new.run (λ s st. after_what s st w))
    (λ _ h s fits sound. subst (λ (a : State × Outcome). Takes s c.args.names.now c.args.limit c.args.symbols.now c.take_ordered.new.symbols x c.take_ordered.new.run a)
    (in_order s (state_seen c.args.symbols.now.texts x) w (sym (c.is_blank.ensures c.args.line.now) ∙ c.if-is_blank.false) c.if-run.false (not_faulty c.args.line.now c.args.item))
    (h s fits sound))
    c.take_ordered.ensures.taken
