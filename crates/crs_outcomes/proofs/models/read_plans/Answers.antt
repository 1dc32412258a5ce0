use Rattle.std.proofs.lemmas.Result.{err_from_is_err_and}
use Rattle.crs_outcomes.proofs.Preparing.{compile_faulty, plans_few}
use Rattle.crs_outcomes.proofs.models.read_plans.Goals as goal

pub returns-in_err-models-clause-refused : goal.returns-in_err-models-clause-refused
returns-in_err-models-clause-refused c =
    let p = err_from_is_err_and c.from_residual.result c.from_residual.ensures.1 in
    rw (p.1, p.2) c.in_err-models.ensures.refused

pub returns-in_err-plans-clause-refused : goal.returns-in_err-plans-clause-refused
returns-in_err-plans-clause-refused c =
    let p = err_from_is_err_and c.from_residual-in_err-plans.result c.from_residual-in_err-plans.ensures.1 in
    rw (p.1, p.2) (compile_faulty c.args.symbols c.args.text.now c.in_ok-models.models c.in_ok-models.symbols c.in_ok-models.ensures.ok c.in_err-plans.field-0.0 c.in_err-plans.ensures.refused)

pub returns-clause-ok : goal.returns-clause-ok
returns-clause-ok c =
    let e = c.in_ok-plans.ensures in
    record {
      models = c.in_ok-models.models;
      read = c.in_ok-models.ensures.ok;
      names = e.names;
      chronicles = e.chronicles;
      proper = e.plans;
      few = plans_few c.in_ok-models.models c.in_ok-plans.plans.plans e.chronicles c.in_ok-models.ensures.ok.proper;
      in_time = e.in_time;
      in_order = e.in_order;
      lags = e.lags;
      reach = e.reach;
    }
