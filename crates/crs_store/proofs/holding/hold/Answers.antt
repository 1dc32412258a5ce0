use Rattle.std.proofs.Common.{rules, ◌≡◌, ◌∙◌, sym, subst}
use Rattle.std.specs.Prelude.{true, false}
use Rattle.crs_model.specs.declared.plan.Plan.{Plan}
use Rattle.crs_living.specs.Done.{IsDone}
use Rattle.crs_store.proofs.Registering.{held_done, held_registered}
use Rattle.crs_store.proofs.holding.hold.Goals as goal

no_both : true ≡ false → ⊥
no_both e = cc

pub returns-then-done-clause-tidy : goal.returns-then-done-clause-tidy
returns-then-done-clause-tidy c =
    held_done c.args.chart.now.plan c.args.chart.now.focus c.args.chart.now.hooks c.args.h c.args.holding.now c.put.new.self c.push.new.self.items c.in_ok-place.place c.args.instance (c.in_ok-place.ensures {u = tt}) (search rules) c.requires.of c.requires.able (subst (λ (p : Plan). IsDone p c.args.h c.args.instance) c.plan.ensures.same (c.is_done-done.ensures.0 c.if-done.true)) c.requires.tidy

pub returns-clause-tidy : goal.returns-clause-tidy
returns-clause-tidy c =
    held_registered c.args.chart.now.plan c.args.chart.now.focus c.args.chart.now.hooks c.args.h c.args.holding.now c.put.new.self c.in_ok-place.place c.args.instance (c.in_ok-place.ensures {u = tt}) c.register.new.holding (c.in_ok-register.ensures {u = tt}) c.requires.of c.requires.able (λ d. no_both (sym (c.is_done-done.ensures.1 (subst (λ (p : Plan). IsDone p c.args.h c.args.instance) (sym c.plan.ensures.same) d)) ∙ c.if-done.false)) c.requires.tidy
