use Rattle.std.proofs.Common.{rules, refl, sym, subst}
use Rattle.std.proofs.lemmas.Result.{IfOk-weaker}
use Rattle.crs_log.specs.Items.{Clock}
use Rattle.crs_log.specs.Run.{after_ordered}
use Rattle.crs_audit.specs.declared.run.Run.{Run}
use Rattle.crs_audit.specs.Runs.{Takes, TakesAll, state_seen}
use Rattle.crs_audit.proofs.Reading.{stays, back_is, clock_takes}
use Rattle.crs_audit.proofs.taking.take_clock.Goals as goal

pub returns-then-t-run : goal.returns-then-t-run
returns-then-t-run c = λ s fits sound.
    stays s c.args.names.now c.args.limit c.args.symbols.now c.args.run.now fits sound _ _ _
    (back_is s c.args.names.now c.args.limit c.args.symbols.now c.args.run.now fits sound c.args.t c.if-t-run.true) refl refl

pub returns : goal.returns
returns c = IfOk-weaker c.put_mark.result _
    (λ _. TakesAll c.args.names.now c.args.limit c.args.symbols.now c.args.symbols.now c.args.run.now c.put_mark.new.self (λ s st. after_ordered s st (Clock c.args.t)))
    (λ _ h s fits sound. subst (λ (y : Run). Takes s c.args.names.now c.args.limit c.args.symbols.now c.args.symbols.now c.args.run.now y (after_ordered s (state_seen c.args.symbols.now.texts c.args.run.now) (Clock c.args.t))) (sym h)
    (clock_takes s c.args.names.now c.args.limit c.args.symbols.now c.args.run.now fits sound c.args.t c.max-horizon.result c.requires.date (search rules) (search rules)))
    c.put_mark.ensures
