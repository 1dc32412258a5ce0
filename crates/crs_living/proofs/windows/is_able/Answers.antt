use Rattle.std.proofs.Common.{◌≡◌, Bool, true, false, List, length, refl, sym, subst}
use Rattle.std.specs.Prelude.{IsTrue, not}
use Rattle.crs_model.specs.declared.progress.Progress.{Progress}
use Rattle.crs_living.specs.JudgedWindows.{IsLostNowhere}
use Rattle.crs_living.proofs.Progress.{each_window}
use Rattle.crs_living.proofs.windows.is_able.Goals as goal

none : (b : Bool) → IsTrue (not b) → b ≡ false
none true t = absurd cc
none false t = refl

not_none : (b : Bool) → b ≡ false → IsTrue (not b)
not_none true f = absurd cc
not_none false f = refl

pub returns-then-can_go_on : goal.returns-then-can_go_on
returns-then-can_go_on c =
    let plan = c.args.judging.now.plan.now in
    let n = length plan.chronicle.windows in
    let can = c.can_go_on.ensures.0 c.if-can_go_on.true in (
      λ t.
          let nowhere : IsLostNowhere plan c.args.judging.now.h c.args.instance.now c.args.instance.now.progress n = subst (λ (ps : List Progress). IsLostNowhere plan c.args.judging.now.h c.args.instance.now ps n) c.all_progress.ensures (c.has_lost.ensures.0 (none c.has_lost.result t)) in
          (can, each_window plan _ nowhere),
      λ able.
          let nowhere : IsLostNowhere plan c.args.judging.now.h c.args.instance.now c.args.instance.now.progress n = λ k l. able.1 k in
          not_none c.has_lost.result (c.has_lost.ensures.1 (subst (λ (ps : List Progress). IsLostNowhere plan c.args.judging.now.h c.args.instance.now ps n) (sym c.all_progress.ensures) nowhere)),
    )
