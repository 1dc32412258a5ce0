use Rattle.std.proofs.Common.{refl}
use Rattle.std.proofs.lemmas.Result.{err_from_is_err_and}
use Rattle.crs_model.specs.Plans.{IsProper}
use Rattle.crs_outcomes.proofs.Preparing.{by_value, accepted, frame}
use Rattle.crs_commands.proofs.Beginning.{represented}
use Rattle.crs_commands.proofs.models.prepare.Goals as goal

pub returns-in_err-plans-clause-refused : goal.returns-in_err-plans-clause-refused
returns-in_err-plans-clause-refused c =
    let p = err_from_is_err_and c.from_residual.result c.from_residual.ensures.1 in
    rw (p.1, p.2) c.in_err-plans.ensures.refused

pub with_ranks-requires-clause-proper : goal.with_ranks-requires-clause-proper
with_ranks-requires-clause-proper c = by_value IsProper c.in_ok-plans.plans.plans c.in_ok-plans.ensures.ok.0.proper

pub returns-clause-ok : goal.returns-clause-ok
returns-clause-ok c =
    let table = c.in_ok-plans.symbols in
    let plans = c.in_ok-plans.plans in
    let r = c.in_ok-plans.ensures.ok.0 in
    let m = r.models in
    let n = c.in_ok-layers.ensures in
    record {
      frame = frame c.args.cite c.args.limits.symbols c.args.limits.entries c.args.text.now m table plans r.read r.names r.chronicles r.proper r.lags;
      accepted = accepted c.args.cite c.args.limits.symbols c.args.limits.entries c.args.text.now m table plans r.read r.names r.chronicles r.proper r.lags c.in_ok-plans.ensures.ok.1;
      represents =
          represented c.args.cite c.args.limits.symbols c.args.limits.entries c.args.text.now m table plans r.read r.names r.chronicles r.proper r.lags
          c.args.focus c.in_ok-layers.layers c.kept-peak.result n.new n.stands c.kept-peak.ensures;
      uncounted = record { refused = refl; recognitions = refl; peak = c.kept-peak.ensures };
      focus_is = n.new.same_focus;
    }
