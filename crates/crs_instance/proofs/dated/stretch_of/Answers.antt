use Rattle.std.proofs.Common.{rules, ◌∙◌, sym}
use Rattle.std.proofs.lemmas.Int.{to_z-of_z}
use mir.Val.{SFits}
use mir.Syntax.{w64}
use Rattle.crs_model.specs.SeenModels.{window_of}
use Rattle.crs_instance.proofs.Stretches.{window_as, anchors_of, stretch_unstarted, stretch_unended, stretch_bound}
use Rattle.crs_instance.proofs.dated.stretch_of.Goals as goal

pub date_from-requires-clause-not_large : goal.date_from-requires-clause-not_large
date_from-requires-clause-not_large g c =
    let d = c.index-as_slice-window.result in
    (anchors_of c.args.plan.now c.requires.proper c.args.window (window_of d) (window_as c.as_slice.result.now c.args.plan.now.chronicle.windows c.args.window d c.as_slice.ensures c.requires.window c.index-as_slice-window.is)).0.not_large

pub date_from-requires-clause-not_small : goal.date_from-requires-clause-not_small
date_from-requires-clause-not_small g c =
    let d = c.index-as_slice-window.result in
    (anchors_of c.args.plan.now c.requires.proper c.args.window (window_of d) (window_as c.as_slice.result.now c.args.plan.now.chronicle.windows c.args.window d c.as_slice.ensures c.requires.window c.index-as_slice-window.is)).0.not_small

pub date_from-requires-2-clause-not_large : goal.date_from-requires-2-clause-not_large
date_from-requires-2-clause-not_large g c =
    let d = c.index-as_slice-window.result in
    (anchors_of c.args.plan.now c.requires.proper c.args.window (window_of d) (window_as c.as_slice.result.now c.args.plan.now.chronicle.windows c.args.window d c.as_slice.ensures c.requires.window c.index-as_slice-window.is)).1.not_large

pub date_from-requires-2-clause-not_small : goal.date_from-requires-2-clause-not_small
date_from-requires-2-clause-not_small g c =
    let d = c.index-as_slice-window.result in
    (anchors_of c.args.plan.now c.requires.proper c.args.window (window_of d) (window_as c.as_slice.result.now c.args.plan.now.chronicle.windows c.args.window d c.as_slice.ensures c.requires.window c.index-as_slice-window.is)).1.not_small

pub returns-in_default : goal.returns-in_default
returns-in_default g c =
    let d = c.index-as_slice-window.result in
    stretch_unstarted c.args.plan.now (g.D.Dated.seen c.args.dated.now) c.args.window (window_of d) (window_as c.as_slice.result.now c.args.plan.now.chronicle.windows c.args.window d c.as_slice.ensures c.requires.window c.index-as_slice-window.is)
    (search rules)

pub returns-in_default-date_from : goal.returns-in_default-date_from
returns-in_default-date_from g c =
    let d = c.index-as_slice-window.result in
    stretch_unended c.args.plan.now (g.D.Dated.seen c.args.dated.now) c.args.window (window_of d) (window_as c.as_slice.result.now c.args.plan.now.chronicle.windows c.args.window d c.as_slice.ensures c.requires.window c.index-as_slice-window.is)
    (search rules)

pub returns : goal.returns
returns g c =
    let d = c.index-as_slice-window.result in
    let fits : SFits w64 c.in-Some.from = search rules in
    let fits2 : SFits w64 c.in-Some-date_from.to = search rules in
    let s = stretch_bound c.args.plan.now (g.D.Dated.seen c.args.dated.now) c.args.window (window_of d) (window_as c.as_slice.result.now c.args.plan.now.chronicle.windows c.args.window d c.as_slice.ensures c.requires.window c.index-as_slice-window.is)
    c.in-Some.from c.in-Some-date_from.to (search rules) (sym c.date_from.ensures ∙ c.in-Some.is) (sym c.date_from-2.ensures ∙ c.in-Some-date_from.is) in
    simp to_z-of_z s
