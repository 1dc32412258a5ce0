use Rattle.crs_model.specs.SeenModels.{body_of}
use Rattle.crs_watch.proofs.Verdicts.{safe_never}
use Rattle.crs_watch.proofs.judging.is_safe.Goals as goal

pub returns : goal.returns
returns c = λ e to h lost. safe_never (body_of c.args.window.now.body) c.args.p.count c.args.p.broken c.if-p.false (c.is_in_range.ensures.yes e) to h lost
