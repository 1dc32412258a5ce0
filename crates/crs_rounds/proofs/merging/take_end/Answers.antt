use Rattle.std.proofs.Common.{◌≡◌, ◌∙◌, ap}
use Rattle.std.proofs.Common.{◌++◌}
use Rattle.std.proofs.lemmas.Result.{IfOk-weaker}
use Rattle.crs_log.specs.Items.{Finish}
use Rattle.crs_model.specs.declared.plan.Plans.{Plans}
use Rattle.crs_rounds.specs.MergedSession.{BringsItem, rise_lines}
use Rattle.crs_rounds.proofs.MergedSteps.{end_printable, end_brings}
use Rattle.crs_rounds.proofs.merging.take_end.Goals as goal

pub push_rise-requires : goal.push_rise-requires
push_rise-requires g c =
    let x = c.args.session.now in
    let m = c.in-Ok.ensures.moved in
    rw (c.plans.ensures) (end_printable c.requires.ready.0 x c.requires.ready.1 c.requires.ready.2 c.args.origin.feed c.requires.feed c.requires.going
    c.requires.said.0 c.finish.new.self c.in-Ok.rise c.requires.said.1 m.engine.same_plans c.in-Ok.ensures.behind)

pub returns-in-Ok : goal.returns-in-Ok
returns-in-Ok g c =
    let x = c.args.session.now in
    let y = record x { feeds = c.finish.new.self } in
    let m = c.in-Ok.ensures.moved in
    let out = c.args.out.now.items in
    IfOk-weaker c.push_rise.result
    (λ _. c.push_rise.new.out.items ≡ out ++ rise_lines c.plans.result.now x.symbols.texts c.in-Ok.rise)
    (λ _. BringsItem x y c.args.origin Finish out c.push_rise.new.out.items)
    (λ _ h line number is f ps r.
    end_brings f x ps r c.args.origin.feed c.requires.feed c.requires.going line c.finish.new.self c.in-Ok.rise out c.push_rise.new.out.items is
    m.engine.same_plans m.feeds c.in-Ok.ensures.behind
    (h ∙ ap (λ (q : Plans). out ++ rise_lines q x.symbols.texts c.in-Ok.rise) c.plans.ensures))
    c.push_rise.ensures
