use Rattle.std.proofs.lemmas.Result.{err_from_is_err_and}
use Rattle.crs_outcomes.proofs.Preparing.{broken_faulty, emits_faulty}
use Rattle.crs_outcomes.proofs.models.read_lone_plans.Goals as goal

pub returns-in_err-plans-clause-refused : goal.returns-in_err-plans-clause-refused
returns-in_err-plans-clause-refused c =
    let p = err_from_is_err_and c.from_residual.result c.from_residual.ensures.1 in
    rw (p.1, p.2) (broken_faulty c.args.symbols c.args.text.now c.in_err-plans.field-0.0 c.in_err-plans.ensures.refused)

pub returns-in-Some-clause-refused : goal.returns-in-Some-clause-refused
returns-in-Some-clause-refused c =
    let r = c.in_ok-plans.ensures.ok in
    emits_faulty c.args.symbols c.args.text.now r.models c.in_ok-plans.symbols r.read c.in_ok-plans.plans.plans r.chronicles r.proper r.in_time c.in-Some.line
    (rw c.as_slice.ensures at (c.in-Some.ensures.line))

pub returns-clause-ok : goal.returns-clause-ok
returns-clause-ok c = (c.in_ok-plans.ensures.ok, rw c.as_slice.ensures at (c.first_emit_line.ensures.none c.in_default.is))
