use Rattle.crs_log.proofs.Numbered.{named_fits}
use Rattle.crs_log.proofs.laws.named_events_fit.Goals as goal

pub returns : goal.returns
returns c = λ texts names e place h arities is. named_fits texts e names 0 place h arities is
