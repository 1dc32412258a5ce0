use Rattle.std.proofs.Common.{◌∙◌, ap}
use Rattle.std.proofs.lemmas.Result.{err_from_is_err_and}
use Rattle.crs_outcomes.proofs.Preparing.{read_faulty}
use Rattle.crs_outcomes.proofs.models.read_text.Goals as goal

pub returns-in_err-models-clause-refused : goal.returns-in_err-models-clause-refused
returns-in_err-models-clause-refused c =
    let p = err_from_is_err_and c.from_residual.result c.from_residual.ensures.1 in
    rw (p.1, p.2) (read_faulty c.args.limit c.args.text.now c.in_err-models.field-0.0 (rw c.seeded-symbols.ensures at c.in_err-models.ensures.refused))

pub returns-clause-ok : goal.returns-clause-ok
returns-clause-ok c =
    let r = c.in_ok-models.ensures in
    record { read = rw c.seeded-symbols.ensures at r.ok; numbered = r.numbered; proper = r.proper; distinct = r.distinct; limit = r.limit ∙ ap (λ t. t.limit) c.seeded-symbols.ensures }
