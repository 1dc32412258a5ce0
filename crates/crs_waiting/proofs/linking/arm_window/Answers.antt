use Rattle.std.proofs.Common.{rules, subst, ◌≡◌, ◌∙◌, ◌+◌}
use Rattle.std.specs.Prelude.{slice_get}
use Rattle.std.proofs.lemmas.Result.{on_ok_weaker}
use Rattle.crs_index.specs.declared.key.Key.{Key}
use Rattle.crs_model.specs.Bindings.{look_of}
use Rattle.crs_model.specs.Plans.{chronicle}
use Rattle.crs_model.proofs.Options.{some_if}
use Rattle.crs_waiting.specs.Hooks.{Waits, key_of}
use Rattle.crs_instance.specs.Followed.{IsStretchAt}
use Rattle.crs_model.specs.declared.plan.Plan.{Plan}
use Rattle.crs_waiting.specs.Links.{hook_at}
use Rattle.crs_waiting.proofs.Linked.{unbegun_armed}
use Rattle.crs_waiting.proofs.linking.arm_window.Goals as goal

pub returns-in_default-clause-armed : goal.returns-in_default-clause-armed
returns-in_default-clause-armed c = unbegun_armed c.args.chart.now.plan c.args.instance.now c.args.k (hook_at c.args.chart.now.hooks.windows.items c.args.k) c.args.waiting.now c.args.handle c.args.since c.args.h c.stretch_of.result (search rules)
    (subst (λ (p : Plan). IsStretchAt p c.args.instance.now c.args.k c.stretch_of.result) c.plan-plan.ensures.same c.stretch_of.ensures)

pub returns-clause-armed : goal.returns-clause-armed
returns-clause-armed c =
    let plan = c.args.chart.now.plan in
    let hook = hook_at c.args.chart.now.hooks.windows.items c.args.k in
    let key : c.key_of_binding-key.result ≡ key_of (16 + c.args.k) hook (look_of c.args.instance.now.binding) = c.key_of_binding-key.ensures ∙ (λ i. key_of (16 + c.args.k) (c.window_hook.ensures i) (look_of (c.binding.ensures i))) in
    on_ok_weaker c.wait.result (λ waits. some_if (slice_get (chronicle plan).windows c.args.k) _ (λ w is from to stretch bound wants near late before.
    subst (λ (q : Key). Waits c.wait.new.waiting q c.args.handle) key waits)) c.wait.ensures.waits
