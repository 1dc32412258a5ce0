use Rattle.std.proofs.Common.{rules, map}
use Rattle.crs_base.specs.Seen.{entry_of}
use Rattle.crs_instance.specs.Instances.{IsOf}
use Rattle.crs_living.specs.Ahead.{MayGo}
use Rattle.crs_living.specs.Windows.{IsAble}
use Rattle.crs_store.proofs.Registering.{held_none, held_more, held_each, held_whole}
use Rattle.crs_store.proofs.holding.hold_all.Goals as goal

pub loop-instance-init : goal.loop-instance-init
loop-instance-init c = held_none c.args.chart.now.plan c.args.chart.now.focus c.args.chart.now.hooks c.args.birth.now.h (MayGo c.args.chart.now.plan c.args.chart.now.focus (map (λ r. entry_of r.value) c.args.birth.now.ahead.now) c.args.birth.now.beyond) c.args.birth.now.finds c.args.holding.now c.args.born.now.found.items c.args.born.now.instances.items c.requires.tidy c.requires.kept

pub hold_born-requires-clause-of : goal.hold_born-requires-clause-of
hold_born-requires-clause-of c = held_each c.args.chart.now.plan c.args.chart.now.focus c.args.chart.now.hooks c.args.birth.now.h (MayGo c.args.chart.now.plan c.args.chart.now.focus (map (λ r. entry_of r.value) c.args.birth.now.ahead.now) c.args.birth.now.beyond) c.args.birth.now.finds c.args.holding.now c.args.born.now.found.items c.args.born.now.instances.items (IsOf c.args.chart.now.plan) c.loop-instance.born.instances.items c.pop.new.self.items c.loop-instance.holding c.loop-instance.born.found.items c.in-Some.instance c.loop-instance.invariant (search rules) c.requires.of

pub hold_born-requires-clause-able : goal.hold_born-requires-clause-able
hold_born-requires-clause-able c = held_each c.args.chart.now.plan c.args.chart.now.focus c.args.chart.now.hooks c.args.birth.now.h (MayGo c.args.chart.now.plan c.args.chart.now.focus (map (λ r. entry_of r.value) c.args.birth.now.ahead.now) c.args.birth.now.beyond) c.args.birth.now.finds c.args.holding.now c.args.born.now.found.items c.args.born.now.instances.items (IsAble c.args.chart.now.plan c.args.chart.now.focus c.args.birth.now.h) c.loop-instance.born.instances.items c.pop.new.self.items c.loop-instance.holding c.loop-instance.born.found.items c.in-Some.instance c.loop-instance.invariant (search rules) c.requires.able

pub hold_born-requires-clause-tidy : goal.hold_born-requires-clause-tidy
hold_born-requires-clause-tidy c = c.loop-instance.invariant.tidy

pub hold_born-requires-clause-kept : goal.hold_born-requires-clause-kept
hold_born-requires-clause-kept c = c.loop-instance.invariant.kept

pub loop-instance-preserved : goal.loop-instance-preserved
loop-instance-preserved c =
    let made = c.in_ok-hold_born.ensures {u = tt} in
    held_more c.args.chart.now.plan c.args.chart.now.focus c.args.chart.now.hooks c.args.birth.now.h (MayGo c.args.chart.now.plan c.args.chart.now.focus (map (λ r. entry_of r.value) c.args.birth.now.ahead.now) c.args.birth.now.beyond) c.args.birth.now.finds c.args.holding.now c.args.born.now.found.items c.args.born.now.instances.items c.loop-instance.born.instances.items c.pop.new.self.items c.loop-instance.holding c.hold_born.new.holding c.loop-instance.born.found.items c.hold_born.new.found.items c.in-Some.instance c.loop-instance.invariant (search rules) made.tidy made.kept c.hold_born.ensures.placed made.comes

pub returns-clause-tidy : goal.returns-clause-tidy
returns-clause-tidy c = c.loop-instance.invariant.tidy

pub returns-clause-kept : goal.returns-clause-kept
returns-clause-kept c = c.loop-instance.invariant.kept

pub returns-clause-placed : goal.returns-clause-placed
returns-clause-placed c = c.loop-instance.invariant.placed

pub returns-clause-joins : goal.returns-clause-joins
returns-clause-joins c = held_whole c.args.chart.now.plan c.args.chart.now.focus c.args.chart.now.hooks c.args.birth.now.h (MayGo c.args.chart.now.plan c.args.chart.now.focus (map (λ r. entry_of r.value) c.args.birth.now.ahead.now) c.args.birth.now.beyond) c.args.birth.now.finds c.args.holding.now c.args.born.now.found.items c.args.born.now.instances.items c.loop-instance.born.instances.items c.loop-instance.holding c.loop-instance.born.found.items c.loop-instance.invariant (search rules)
