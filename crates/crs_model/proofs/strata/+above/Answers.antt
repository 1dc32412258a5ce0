use Rattle.std.proofs.Common.{◌∙◌, ap, sym, subst, List, map, zip}
use Rattle.crs_base.specs.Words.{IsIn}
use Rattle.crs_model.specs.declared.chronicle.Emit.{Emit}
use Rattle.crs_model.specs.declared.plan.Plan.{Plan}
use Rattle.crs_model.specs.Plans.{chronicle}
use Rattle.crs_model.specs.SeenModels.{emit_of}
use Rattle.crs_model.proofs.Heights.{above_hit, above_miss}
use Rattle.crs_model.proofs.strata.+above.Goals as goal

pub returns-then-emits : goal.returns-then-emits
returns-then-emits t c = rw (c.in-Some.ensures.cases.0, c.in-Some-split_first.ensures.cases.0, c.max.ensures)
    (above_hit (chronicle c.in-Some.plan.now.value) c.in-Some-split_first.stratum.now (zip (map (λ r. chronicle r.value) c.in-Some.others.now) c.in-Some-split_first.rest.now) c.args.name c.above-most.result
    (subst (λ (es : List Emit). IsIn c.args.name (map (λ e. e.pattern.name) (map emit_of es))) (c.as_slice.ensures ∙ ap (λ (p : Plan). p.chronicle.emits) c.deref.ensures) (c.emits.ensures.yes c.if-emits.true)) c.above-most.ensures)

pub returns-else-emits : goal.returns-else-emits
returns-else-emits t c = rw (c.in-Some.ensures.cases.0, c.in-Some-split_first.ensures.cases.0)
    (above_miss (chronicle c.in-Some.plan.now.value) c.in-Some-split_first.stratum.now (zip (map (λ r. chronicle r.value) c.in-Some.others.now) c.in-Some-split_first.rest.now) c.args.name c.above-most.result
    (λ i. c.emits.ensures.no c.if-emits.false (subst (λ (es : List Emit). IsIn c.args.name (map (λ e. e.pattern.name) (map emit_of es))) (sym (c.as_slice.ensures ∙ ap (λ (p : Plan). p.chronicle.emits) c.deref.ensures)) i)) c.above-most.ensures)
