use Rattle.std.proofs.Common.{rules, sym, ◌∙◌, subst}
use Rattle.std.proofs.lemmas.Int.{to_z-of_z}
use Rattle.std.proofs.lemmas.Result.{on_ok_weaker}
use mir.Syntax.{w64}
use mir.Val.{SFits}
use Rattle.std.specs.Prelude.{Bool}
use Rattle.crs_model.specs.declared.plan.Plan.{Plan}
use Rattle.crs_focus.specs.PlanLevels.{IsLastOf}
use Rattle.crs_waiting.proofs.DuePairs.{last_is}
use Rattle.crs_waiting.proofs.dues.put_deadline.Goals as goal

pub returns-clause-put : goal.returns-clause-put
returns-clause-put c =
    let fits : SFits w64 c.in-Some.deadline = search rules in
    let last = subst (λ (p : Plan). IsLastOf p c.args.chart.now.focus c.args.instance.now c.last_date.result) c.plan.ensures.same (subst (λ (b : Bool). IsLastOf c.plan.result.now b c.args.instance.now c.last_date.result) c.focus.ensures c.last_date.ensures) in
    on_ok_weaker c.put_due.result
    (λ p t d l m. p t (last_is c.args.chart.now.plan c.args.chart.now.focus c.args.instance.now c.last_date.result c.in-Some.deadline t c.in-Some.is last d ∙ sym (to_z-of_z w64 c.in-Some.deadline fits)) l m)
    c.put_due.ensures.put
