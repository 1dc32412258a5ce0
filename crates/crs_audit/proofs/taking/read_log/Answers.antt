use Rattle.std.proofs.lemmas.Result.{IfOk-weaker}
use Rattle.crs_base.specs.Lines.{lines_of}
use Rattle.crs_audit.specs.Runs.{IsLogOfAll}
use Rattle.crs_audit.proofs.Reading.{log_read}
use Rattle.crs_audit.proofs.taking.read_log.Goals as goal

pub returns-clause-read : goal.returns-clause-read
returns-clause-read c = IfOk-weaker c.ended.result _ (IsLogOfAll c.args.names.now c.args.limit c.args.symbols.now c.take_lines.new.symbols (lines_of c.args.log.now))
    (λ log h s fits. log_read s c.args.names.now c.args.limit c.args.symbols.now c.take_lines.new.symbols c.in_ok-run.run' log (lines_of c.args.log.now) (c.in_ok-run.ensures.read s fits) h.0 h.1 h.2)
    c.ended.ensures
