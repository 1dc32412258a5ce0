use Rattle.std.proofs.Common.{◌∙◌, ap, refl, false, length}
use Rattle.std.proofs.lemmas.Result.{err_from_is_err_and}
use Rattle.crs_feeds.proofs.Horizons.{length_new}
use Rattle.crs_model.specs.Plans.{IsProper}
use Rattle.crs_outcomes.proofs.Preparing.{by_value, accepted, lone_chronicles, frame}
use Rattle.crs_rounds.proofs.PreparingMerged.{stands_at_start}
use Rattle.crs_rounds.proofs.preparing.prepare_merged.Goals as goal

pub returns-in_err-plans-clause-refused : goal.returns-in_err-plans-clause-refused
returns-in_err-plans-clause-refused c =
    let p = err_from_is_err_and c.from_residual.result c.from_residual.ensures.1 in
    rw (p.1, p.2) c.in_err-plans.ensures.refused

pub new-requires-clause-proper : goal.new-requires-clause-proper
new-requires-clause-proper c = by_value IsProper c.in_ok-plans.plans.plans c.in_ok-plans.ensures.ok.0.proper

pub returns-clause-ok : goal.returns-clause-ok
returns-clause-ok c =
    let table = c.in_ok-plans.symbols in
    let plans = c.in_ok-plans.plans in
    let r = c.in_ok-plans.ensures.ok.0 in
    let m = r.models in
    let n = c.in_ok-feeds.ensures in
    record {
      frame = frame false c.args.limits.symbols c.args.limits.entries c.args.text.now m table plans r.read r.names r.chronicles r.proper r.lags;
      accepted = record {
        accepted = accepted false c.args.limits.symbols c.args.limits.entries c.args.text.now m table plans r.read r.names r.chronicles r.proper r.lags (λ e. c.in_ok-plans.ensures.ok.1);
        alone = lone_chronicles false c.args.limits.symbols c.args.limits.entries c.args.text.now m table plans r.read r.names r.chronicles r.proper r.lags c.in_ok-plans.ensures.ok.1;
      };
      stands = stands_at_start c.args.limits.symbols c.args.limits.entries c.args.text.now m table plans r.read r.names r.chronicles r.proper r.lags
          c.in_ok-feeds.feeds n.new.engine.same_plans n.new.engine.same_limit n.behind;
      count = ap length n.new.feeds ∙ length_new c.args.feeds;
      clean = refl;
    }
