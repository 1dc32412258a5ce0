use Rattle.std.proofs.Common.{rules, ◌≡◌, ◌∙◌, ap, subst}
use Rattle.std.specs.Prelude.{Some, slice_get}
use Rattle.crs_instance.specs.Followed.{IsStretchAt}
use Rattle.crs_model.specs.declared.plan.Plan.{Plan}
use Rattle.crs_model.specs.Plans.{chronicle}
use Rattle.crs_model.specs.SeenModels.{window_of}
use Rattle.crs_instance.proofs.Stretches.{window_as}
use Rattle.crs_waiting.proofs.DuePairs.{around, unbegun_undue, window_put}
use Rattle.crs_waiting.proofs.dues.put_window_dues.Goals as goal

pub returns-in_default-clause-put : goal.returns-in_default-clause-put
returns-in_default-clause-put c = λ t due l m. absurd (unbegun_undue c.args.chart.now.plan c.args.instance.now c.args.k c.stretch_of.result (search rules) (subst (λ (p : Plan). IsStretchAt p c.args.instance.now c.args.k c.stretch_of.result) c.plan-plan.ensures.same c.stretch_of.ensures) t due)

pub put_end-requires-clause-last : goal.put_end-requires-clause-last
put_end-requires-clause-last c = λ t e l m. c.put_start.ensures.kept _ (c.put_near.ensures.kept _ (c.requires.last.last t e l m))

pub returns-clause-last : goal.returns-clause-last
returns-clause-last c = around c.args.chart.now.plan c.args.instance.now c.args.handle c.args.since c.in-Some.stretch c.put_near.new.calendar.pairs c.put_start.new.calendar.pairs c.put_end.new.calendar.pairs ((c.in_ok-put_near.ensures {u = tt}).put) c.put_start.ensures.kept c.put_end.ensures.kept ((c.in_ok-put_end.ensures {u = tt}).put)

pub returns-clause-put : goal.returns-clause-put
returns-clause-put c =
    let d = c.index-as_slice-k.result in
    let is : slice_get (chronicle c.args.chart.now.plan).windows c.args.k ≡ Some (window_of d) = window_as c.as_slice.result.now c.args.chart.now.plan.chronicle.windows c.args.k d (c.as_slice.ensures ∙ ap (λ (p : Plan). p.chronicle.windows) c.plan-plan.ensures.same) c.requires.window c.index-as_slice-k.is in
    window_put c.args.chart.now.plan c.args.instance.now c.args.handle c.args.since c.args.k (window_of d) is c.in-Some.stretch c.stretch_of.result c.in-Some.is (subst (λ (p : Plan). IsStretchAt p c.args.instance.now c.args.k c.stretch_of.result) c.plan-plan.ensures.same c.stretch_of.ensures) c.put_end.new.calendar.pairs (returns-clause-last c) (λ t s l m. c.put_end.ensures.kept _ ((c.in_ok-put_start.ensures {u = tt}).put t s l m))

pub returns-clause-kept : goal.returns-clause-kept
returns-clause-kept c = λ t i. c.put_end.ensures.kept t (c.put_start.ensures.kept t (c.put_near.ensures.kept t i))

pub returns-in_err-put_end-clause-kept : goal.returns-in_err-put_end-clause-kept
returns-in_err-put_end-clause-kept c = λ t i. c.put_end.ensures.kept t (c.put_start.ensures.kept t (c.put_near.ensures.kept t i))

pub returns-in_err-put_start-clause-kept : goal.returns-in_err-put_start-clause-kept
returns-in_err-put_start-clause-kept c = λ t i. c.put_start.ensures.kept t (c.put_near.ensures.kept t i)
