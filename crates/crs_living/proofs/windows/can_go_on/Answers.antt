use Rattle.std.proofs.Common.{rules, refl, subst}
use Rattle.std.specs.Prelude.{ℤ, pos, ◌≤ℤ◌, ◌↔◌, Option, None, IfSome}
use Rattle.crs_model.specs.Partial.{CanGoOn}
use Rattle.crs_model.specs.Plans.{chronicle}
use Rattle.crs_focus.specs.PlanLevels.{levels_in}
use Rattle.crs_focus.proofs.Awaiting.{last_tells}
use Rattle.crs_living.proofs.windows.can_go_on.Goals as goal

pub returns-in-None : goal.returns-in-None
returns-in-None c =
    let says : CanGoOn (chronicle c.args.judging.now.plan.now) (levels_in c.args.judging.now.plan.now c.args.judging.now.focus) c.args.instance.now.partial c.args.judging.now.h ↔ IfSome None (λ v. pos c.args.judging.now.h ≤ℤ v) = subst (λ (o : Option ℤ). CanGoOn (chronicle c.args.judging.now.plan.now) (levels_in c.args.judging.now.plan.now c.args.judging.now.focus) c.args.instance.now.partial c.args.judging.now.h ↔ IfSome o (λ v. pos c.args.judging.now.h ≤ℤ v)) c.in-None.is
    (last_tells c.args.judging.now.plan.now c.args.judging.now.focus c.requires.judging.proper c.args.instance.now c.requires.of c.args.judging.now.h c.last_date.result c.last_date.ensures) in
    (λ t. says.1 tt, λ k. refl)

pub returns-in-Some : goal.returns-in-Some
returns-in-Some c =
    let says : CanGoOn (chronicle c.args.judging.now.plan.now) (levels_in c.args.judging.now.plan.now c.args.judging.now.focus) c.args.instance.now.partial c.args.judging.now.h ↔ (pos c.args.judging.now.h ≤ℤ c.in-Some.last) = subst (λ (o : Option ℤ). CanGoOn (chronicle c.args.judging.now.plan.now) (levels_in c.args.judging.now.plan.now c.args.judging.now.focus) c.args.instance.now.partial c.args.judging.now.h ↔ IfSome o (λ v. pos c.args.judging.now.h ≤ℤ v)) c.in-Some.is
    (last_tells c.args.judging.now.plan.now c.args.judging.now.focus c.requires.judging.proper c.args.instance.now c.requires.of c.args.judging.now.h c.last_date.result c.last_date.ensures) in
    (λ t. says.1 (search (rules, t)), λ k. (let l = says.0 k in search (rules, l)))
