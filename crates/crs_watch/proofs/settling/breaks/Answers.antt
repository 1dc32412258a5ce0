use Rattle.std.proofs.Common.{sym, subst}
use Rattle.crs_base.specs.Seen.{entry_of}
use Rattle.crs_model.specs.Bindings.{look_of}
use Rattle.crs_model.specs.SeenModels.{body_of}
use Rattle.crs_model.specs.HasProgress.{Spares}
use Rattle.crs_watch.proofs.settling.breaks.Goals as goal

pub returns-in-Hold-clause-no : goal.returns-in-Hold-clause-no
returns-in-Hold-clause-no c = λ f.
    subst (λ b. Spares (look_of c.args.binding.now) (body_of b) c.args.stretch.from c.args.stretch.to (entry_of c.args.entry.now)) (sym c.in-Hold.is) (c.breaks_hold.ensures.no f)
