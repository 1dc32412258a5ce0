use Rattle.std.proofs.Common.{sym, subst}
use Rattle.std.proofs.lemmas.Result.{IfOk-weaker}
use Rattle.crs_log.specs.Items.{Finish}
use Rattle.crs_log.specs.Run.{after_ordered}
use Rattle.crs_audit.specs.declared.run.Run.{Run}
use Rattle.crs_audit.specs.Runs.{Takes, TakesAll, state_seen}
use Rattle.crs_audit.proofs.Reading.{end_takes}
use Rattle.crs_audit.proofs.taking.take_end.Goals as goal

pub returns : goal.returns
returns c = IfOk-weaker c.put_mark.result _
    (λ _. TakesAll c.args.names.now c.args.limit c.args.symbols.now c.args.symbols.now c.args.run.now c.put_mark.new.self (λ s st. after_ordered s st Finish))
    (λ _ h s fits sound. subst (λ (y : Run). Takes s c.args.names.now c.args.limit c.args.symbols.now c.args.symbols.now c.args.run.now y (after_ordered s (state_seen c.args.symbols.now.texts c.args.run.now) Finish)) (sym h)
    (end_takes s c.args.names.now c.args.limit c.args.symbols.now c.args.run.now fits sound))
    c.put_mark.ensures
