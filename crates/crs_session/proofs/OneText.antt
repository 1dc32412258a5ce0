-- The text of a log is decided.
use Rattle.std.proofs.Common.{sym, ap, ◌∙◌}
use Rattle.crs_base.specs.Lines.{lines_of}
use Rattle.crs_log.specs.Reading.{numbered}
use Rattle.crs_layers.proofs.OneRun.{one_run}
use Rattle.crs_session.specs.Laws.{LogTextIsOne}
use Rattle.crs_session.specs.Texts.{setting_of, start_of, text_of}

pub log_text_is_one : LogTextIsOne
log_text_is_one f log a b x y =
    x.3 ∙ ap (text_of f.cite f.entries) (one_run (setting_of f) (start_of f) (numbered (lines_of log)) x.0 y.0 x.1 y.1 x.2 y.2).0 ∙ sym y.3
