use Rattle.std.proofs.Common.{rules, ◌≡◌, ◌∙◌, ◌∷◌, ◌++◌, [], Bool, true, false, List, length, refl, sym, ap, subst}
use Rattle.crs_base.specs.Seen.{entry_of}
use Rattle.crs_model.specs.declared.progress.Progress.{Progress}
use Rattle.crs_model.specs.Partial.{CanGoOn}
use Rattle.crs_model.specs.Plans.{IsProper, chronicle}
use Rattle.crs_focus.specs.PlanLevels.{levels_in}
use Rattle.crs_instance.specs.Instances.{InstanceState, IsOf}
use Rattle.crs_living.specs.declared.judging.Passing.{Passing}
use Rattle.crs_living.specs.JudgedWindows.{IsLostNowhere}
use Rattle.crs_living.specs.Judgings.{IsAbleBy}
use Rattle.crs_living.specs.Scannings.{IsKeptIfAble}
use Rattle.crs_living.specs.Windows.{IsAble}
use Rattle.crs_living.proofs.Carried.{able_kept, able_one, late_none, lost_none, passed_of}
use Rattle.crs_living.proofs.Scanned.{adds_none, adds_one}
use Rattle.crs_living.proofs.deciding.keep_fork.Goals as goal

no_both : (b : Bool) → b ≡ true → b ≡ false → ⊥
no_both b t f = absurd cc

pub returns-then-has_lost : goal.returns-then-has_lost
returns-then-has_lost c =
    let scan = c.args.scan.now in
    let p = c.passing-passing.result in
    let x = entry_of scan.entry.now in
    let qs = c.carry_windows.new.progress.items in
    let n = length p.judging.plan.now.chronicle.windows in
    let proper : IsProper p.judging.plan.now = subst (λ (q : Passing). IsProper q.judging.plan.now) (sym c.passing-passing.ensures) c.requires.scan.proper in
    let of_parent : IsOf p.judging.plan.now scan.parent.now = subst (λ (q : Passing). IsOf q.judging.plan.now scan.parent.now) (sym c.passing-passing.ensures) c.requires.scan.of in
    let of : IsOf p.judging.plan.now c.args.fork = subst (λ (q : Passing). IsOf q.judging.plan.now c.args.fork) (sym c.passing-passing.ensures) c.requires.fork in
    let lost : IsLostNowhere p.judging.plan.now p.judging.h c.args.fork qs n → ⊥ =
    subst (λ (ps : List Progress). IsLostNowhere p.judging.plan.now p.judging.h c.args.fork ps n → ⊥) c.as_slice.ensures.value (λ nowhere. no_both c.has_lost.result c.if-has_lost.true (c.has_lost.ensures.1 nowhere)) in
    adds_none scan.plan.now scan.focus scan.until (IsKeptIfAble scan.plan.now scan.focus scan.history.now x scan.since scan.until scan.parent.now c.args.fork) c.args.out.now.items
    (subst (λ (q : Passing). IsKeptIfAble q.judging.plan.now q.judging.focus q.history.now x q.since q.judging.h scan.parent.now c.args.fork []) c.passing-passing.ensures
    (lost_none p scan.parent.now c.args.fork n qs (c.in_ok-carry_windows.ensures {u = tt}) of refl x proper of_parent lost))

pub can_go_on-requires-clause-of : goal.can_go_on-requires-clause-of
can_go_on-requires-clause-of c =
    let p = c.passing-passing.result in
    let of : IsOf p.judging.plan.now c.args.fork = subst (λ (q : Passing). IsOf q.judging.plan.now c.args.fork) (sym c.passing-passing.ensures) c.requires.fork in
    let made : c.in_ok-next.next ≡ record c.args.fork { progress = c.carry_windows.new.progress.items } = c.in_ok-next.ensures {u = tt} ∙ ap (λ (ps : List Progress). record c.args.fork { progress = ps }) c.as_slice-2.ensures.value in
    subst (IsOf p.judging.plan.now) (sym made) (passed_of p c.args.scan.now.parent.now c.args.fork (length p.judging.plan.now.chronicle.windows) c.carry_windows.new.progress.items (c.in_ok-carry_windows.ensures {u = tt}) of refl)

pub returns-in_ok-push : goal.returns-in_ok-push
returns-in_ok-push c =
    let scan = c.args.scan.now in
    let p = c.passing-passing.result in
    let x = entry_of scan.entry.now in
    let qs = c.carry_windows.new.progress.items in
    let n = length p.judging.plan.now.chronicle.windows in
    let now = c.in_ok-next.next in
    let proper : IsProper p.judging.plan.now = subst (λ (q : Passing). IsProper q.judging.plan.now) (sym c.passing-passing.ensures) c.requires.scan.proper in
    let of_parent : IsOf p.judging.plan.now scan.parent.now = subst (λ (q : Passing). IsOf q.judging.plan.now scan.parent.now) (sym c.passing-passing.ensures) c.requires.scan.of in
    let of : IsOf p.judging.plan.now c.args.fork = subst (λ (q : Passing). IsOf q.judging.plan.now c.args.fork) (sym c.passing-passing.ensures) c.requires.fork in
    let made : now ≡ record c.args.fork { progress = qs } = c.in_ok-next.ensures {u = tt} ∙ ap (λ (ps : List Progress). record c.args.fork { progress = ps }) c.as_slice-2.ensures.value in
    let can : CanGoOn (chronicle p.judging.plan.now) (levels_in p.judging.plan.now p.judging.focus) c.args.fork.partial p.judging.h =
    subst (λ (i : InstanceState). CanGoOn (chronicle p.judging.plan.now) (levels_in p.judging.plan.now p.judging.focus) i.partial p.judging.h) made (c.can_go_on.ensures.0 c.if-can_go_on.true) in
    let nowhere : IsLostNowhere p.judging.plan.now p.judging.h c.args.fork qs n = subst (λ (ps : List Progress). IsLostNowhere p.judging.plan.now p.judging.h c.args.fork ps n) c.as_slice.ensures.value (c.has_lost.ensures.0 c.if-has_lost.false) in
    let kept = able_kept p scan.parent.now c.args.fork n qs (c.in_ok-carry_windows.ensures {u = tt}) of refl x proper of_parent can nowhere in
    let able : IsAble scan.plan.now scan.focus scan.until now = subst (λ (q : Passing). IsAbleBy q.judging now) c.passing-passing.ensures (subst (IsAbleBy p.judging) (sym made) (able_one p scan.parent.now c.args.fork n qs (c.in_ok-carry_windows.ensures {u = tt}) of refl x proper of_parent can nowhere)) in
    let of_now : IsOf scan.plan.now now = subst (λ (q : Passing). IsOf q.judging.plan.now now) c.passing-passing.ensures (subst (IsOf p.judging.plan.now) (sym made) (passed_of p scan.parent.now c.args.fork n qs (c.in_ok-carry_windows.ensures {u = tt}) of refl)) in
    let items : c.push.new.self.items ≡ c.args.out.now.items ++ now ∷ [] = search rules in
    adds_one scan.plan.now scan.focus scan.until (IsKeptIfAble scan.plan.now scan.focus scan.history.now x scan.since scan.until scan.parent.now c.args.fork) c.args.out.now.items c.push.new.self.items now items of_now able
    (subst (λ (q : Passing). IsKeptIfAble q.judging.plan.now q.judging.focus q.history.now x q.since q.judging.h scan.parent.now c.args.fork (now ∷ [])) c.passing-passing.ensures
    (subst (λ (i : InstanceState). IsKeptIfAble p.judging.plan.now p.judging.focus p.history.now x p.since p.judging.h scan.parent.now c.args.fork (i ∷ [])) (sym made) kept))

pub returns-else-can_go_on : goal.returns-else-can_go_on
returns-else-can_go_on c =
    let scan = c.args.scan.now in
    let p = c.passing-passing.result in
    let x = entry_of scan.entry.now in
    let qs = c.carry_windows.new.progress.items in
    let n = length p.judging.plan.now.chronicle.windows in
    let proper : IsProper p.judging.plan.now = subst (λ (q : Passing). IsProper q.judging.plan.now) (sym c.passing-passing.ensures) c.requires.scan.proper in
    let of_parent : IsOf p.judging.plan.now scan.parent.now = subst (λ (q : Passing). IsOf q.judging.plan.now scan.parent.now) (sym c.passing-passing.ensures) c.requires.scan.of in
    let of : IsOf p.judging.plan.now c.args.fork = subst (λ (q : Passing). IsOf q.judging.plan.now c.args.fork) (sym c.passing-passing.ensures) c.requires.fork in
    let made : c.in_ok-next.next ≡ record c.args.fork { progress = qs } = c.in_ok-next.ensures {u = tt} ∙ ap (λ (ps : List Progress). record c.args.fork { progress = ps }) c.as_slice-2.ensures.value in
    let late : CanGoOn (chronicle p.judging.plan.now) (levels_in p.judging.plan.now p.judging.focus) c.args.fork.partial p.judging.h → ⊥ =
    subst (λ (i : InstanceState). CanGoOn (chronicle p.judging.plan.now) (levels_in p.judging.plan.now p.judging.focus) i.partial p.judging.h → ⊥) made (λ can. no_both c.can_go_on.result (c.can_go_on.ensures.1 can) c.if-can_go_on.false) in
    adds_none scan.plan.now scan.focus scan.until (IsKeptIfAble scan.plan.now scan.focus scan.history.now x scan.since scan.until scan.parent.now c.args.fork) c.args.out.now.items
    (subst (λ (q : Passing). IsKeptIfAble q.judging.plan.now q.judging.focus q.history.now x q.since q.judging.h scan.parent.now c.args.fork []) c.passing-passing.ensures
    (late_none p scan.parent.now c.args.fork n qs (c.in_ok-carry_windows.ensures {u = tt}) of refl x proper of_parent late))
