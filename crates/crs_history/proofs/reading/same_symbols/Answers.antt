use Rattle.std.proofs.Common.{sym, ◌∙◌, true≢false}
use Rattle.std.proofs.lemmas.Slice.Eq.{slice_eq-Decides}
use Rattle.crs_history.proofs.Telling.{same_decides}
use Rattle.crs_history.proofs.reading.same_symbols.Goals as goal

pub returns-clause-yes : goal.returns-clause-yes
returns-clause-yes c = (slice_eq-Decides same_decides c.args.a.now c.args.b.now c.eq.result c.eq.ensures).0

pub returns-clause-no : goal.returns-clause-no
returns-clause-no c = λ f e. true≢false (sym ((slice_eq-Decides same_decides c.args.a.now c.args.b.now c.eq.result c.eq.ensures).1 e) ∙ f)
