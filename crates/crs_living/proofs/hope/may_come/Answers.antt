use Rattle.std.proofs.Common.{get_or, rules, ◌<ℤ◌, ℤ, map, pos, sym, ap, subst, ◌∙◌}
use Rattle.std.proofs.lemmas.Int.{to_z-of_z}
use mir.Syntax.{w64}
use mir.Val.{SFits}
use Rattle.crs_base.specs.Seen.{entry_of}
use Rattle.crs_model.specs.declared.date_window.DateWindow.{DateWindow}
use Rattle.crs_living.proofs.Hopeless.{AllMiss, found_hopeless}
use Rattle.crs_living.proofs.Scanned.{named_as}
use Rattle.crs_living.proofs.hope.may_come.Goals as goal

pub returns : goal.returns
returns c miss =
    let plan = c.args.plan.now in
    let definition = get_or c.as_slice.result.now c.args.event c.index-as_slice-event.result in
    let last = c.in-Some.last in
    let ahead = map (λ r. entry_of r.value) c.args.ahead.now in
    let fits : SFits w64 c.in-Some.last = search rules in
    let same = to_z-of_z w64 c.in-Some.last fits in
    found_hopeless plan c.args.instance.now c.requires.of c.args.event c.requires.event c.is_bound.result c.is_bound.ensures c.if-is_bound.false c.in-Some.last
    (ap (λ (w : DateWindow). w.most) (sym c.date_window.ensures) ∙ c.in-Some.is) c.args.beyond (subst (λ (z : ℤ). z <ℤ pos c.args.beyond) same (c.is_before.ensures.0 c.if-not-is_before.false)) ahead definition.pattern.name
    (λ v is. named_as plan c.args.event c.as_slice.result.now c.as_slice.ensures c.requires.event c.index-as_slice-event.result v is)
    (subst (λ (z : ℤ). AllMiss definition.pattern.name z ahead) same (c.one_comes_by.ensures miss))
