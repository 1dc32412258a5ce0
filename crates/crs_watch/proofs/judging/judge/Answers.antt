use Rattle.std.proofs.Common.{rules, subst}
use Rattle.std.specs.Prelude.{ℤ, pos}
use Rattle.std.proofs.lemmas.Int.{to_z-of_z}
use mir.Val.{SFits}
use mir.Syntax.{w64}
use Rattle.crs_model.specs.SeenModels.{body_of, window_of}
use Rattle.crs_model.specs.Verdicts.{IsMet, IsLost}
use Rattle.crs_model.specs.HasProgress.{IsMetBy, IsLostBy}
use Rattle.crs_model.proofs.WindowLaws.{judged_by_progress}
use Rattle.crs_watch.specs.Judged.{IsToldBy}
use Rattle.crs_watch.proofs.Verdicts.{exactly_as}
use Rattle.crs_watch.proofs.judging.judge.Goals as goal

pub returns-clause-told : goal.returns-clause-told
returns-clause-told c =
    let fits : SFits w64 c.args.stretch.to = search rules in
    let fits2 : SFits w64 c.args.h = c.ranges.h in
    let e : IsToldBy c.told_by.result (body_of c.args.window.now.body) c.args.stretch.to c.args.h c.args.p.count c.args.p.broken = simp to_z-of_z at c.told_by.ensures in
    e

pub returns-clause-verdict : goal.returns-clause-verdict
returns-clause-verdict c = λ look a settled n at stretch bound p.
    let fits : SFits w64 c.args.stretch.to = search rules in
    let fits2 : SFits w64 c.args.h = c.ranges.h in
    let body = body_of c.args.window.now.body in
    let w = window_of c.args.window.now in
    let g = c.args.stretch in
    let e : IsToldBy c.told_by.result body g.to c.args.h c.args.p.count c.args.p.broken = simp to_z-of_z at c.told_by.ensures in
    let f : IsToldBy c.told_by.result body g.to (pos n) c.args.p.count c.args.p.broken = subst (λ (z : ℤ). IsToldBy c.told_by.result body g.to z c.args.p.count c.args.p.broken) at e in
    let laws = judged_by_progress look a settled n w g.from g.to c.args.p.count c.args.p.broken stretch bound p in
    exactly_as (IsMetBy body g.to (pos n) c.args.p.count c.args.p.broken) (IsLostBy body g.to (pos n) c.args.p.count c.args.p.broken) (IsMet look a settled n w) (IsLost look a settled n w) c.told_by.result laws.0 laws.1 f
