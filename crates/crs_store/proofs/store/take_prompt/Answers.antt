use Rattle.std.proofs.Common.{◌++◌, length, map, refl, false}
use Rattle.crs_base.specs.Seen.{entry_of}
use Rattle.crs_instance.specs.Instances.{IsOf}
use Rattle.crs_living.specs.Ahead.{MayGo}
use Rattle.crs_base.proofs.Alls.{all_append}
use Rattle.crs_store.specs.Found.{founds, held_in}
use Rattle.crs_waiting.specs.Orders.{IsOvertaken}
use Rattle.crs_living.specs.Slots.{members}
use Rattle.crs_living.specs.Windows.{IsAble}
use Rattle.crs_store.proofs.Assembled.{flat_ticks, tidy_all, tidy_able, tidy_standing}
use Rattle.crs_store.proofs.Births.{born_found, born_open, born_part}
use Rattle.crs_store.proofs.Born.{forks_more, founds_able, founds_all, founds_whole}
use Rattle.crs_store.proofs.Joined.{part_of}
use Rattle.crs_store.proofs.Prompting.{taken_prompt}
use Rattle.crs_store.proofs.Overtaken.{none_skipped}
use Rattle.crs_store.proofs.store.take_prompt.Goals as goal

pub forks-requires-clause-of : goal.forks-requires-clause-of
forks-requires-clause-of g c = tidy_all c.args.moment.now.plan.now c.args.moment.now.focus c.args.moment.now.hooks.now c.args.holding.now c.args.moment.now.since c.requires.tidy

pub hold_all-requires-clause-tidy : goal.hold_all-requires-clause-tidy
hold_all-requires-clause-tidy g c = tidy_standing c.args.moment.now.plan.now c.args.moment.now.focus c.args.moment.now.hooks.now c.args.holding.now c.args.moment.now.since c.requires.tidy c.forks.new.waiting c.forks.ensures.standing

pub hold_all-requires-clause-kept : goal.hold_all-requires-clause-kept
hold_all-requires-clause-kept g c =
    let f = (c.in_ok-forks.ensures {u = tt}).forks in
    born_found c.args.moment.now.plan.now _ c.forks.new.out.instances.items c.args.born.now.found.items c.forks.new.out.found.items f.more f.born (IsOf c.args.moment.now.plan.now) f.of c.requires.kept

pub hold_all-requires-clause-of : goal.hold_all-requires-clause-of
hold_all-requires-clause-of g c =
    let f = (c.in_ok-forks.ensures {u = tt}).forks in
    born_open c.args.moment.now.plan.now _ c.forks.new.out.instances.items c.args.born.now.found.items c.forks.new.out.found.items f.more f.born (IsOf c.args.moment.now.plan.now) f.of

pub hold_all-requires-clause-able : goal.hold_all-requires-clause-able
hold_all-requires-clause-able g c =
    let f = (c.in_ok-forks.ensures {u = tt}).forks in
    born_open c.args.moment.now.plan.now _ c.forks.new.out.instances.items c.args.born.now.found.items c.forks.new.out.found.items f.more f.born (IsAble c.args.moment.now.plan.now c.args.moment.now.focus c.args.moment.now.since) f.able

pub returns-clause-taken : goal.returns-clause-taken
returns-clause-taken g c =
    let plan = c.args.moment.now.plan.now in
    let focus = c.args.moment.now.focus in
    let history = c.args.moment.now.history.now in
    let x = entry_of c.args.moment.now.entry.now.value in
    let since = c.args.moment.now.since in
    let Out = IsOvertaken plan focus c.args.moment.now.hooks.now.events.items false x in
    let rs = c.args.born.now.found.items in
    let kept = members c.args.holding.now.slots.slots in
    let held = held_in plan c.args.holding.now.slots rs in
    let f = (c.in_ok-forks.ensures {u = tt}).forks in
    let born = f.more in (
      held ++ born,
      taken_prompt plan focus Out (none_skipped plan focus c.args.moment.now.hooks.now.events.items false x refl) c.requires.moment.proper c.requires.moment.flat history x since held born (founds_all plan rs c.requires.kept c.args.holding.now.slots (tidy_all plan focus c.args.moment.now.hooks.now c.args.holding.now since c.requires.tidy))
          (all_append (IsAble plan focus since) kept (founds plan rs) (tidy_able plan focus c.args.moment.now.hooks.now c.args.holding.now since c.requires.tidy) (founds_able plan rs c.requires.kept focus since)) (forks_more plan focus Out history x since since kept (founds plan rs) born (founds_whole plan rs c.requires.kept) f.are),
      born_part plan _ (MayGo plan focus (map (λ r. entry_of r.value) c.args.moment.now.ahead.now) c.args.moment.now.beyond) c.args.holding.now.slots c.forks.new.out.instances.items rs c.forks.new.out.found.items born (held_in plan c.hold_all.new.holding.slots c.hold_all.new.born.found.items) f.born
          (part_of (MayGo plan focus (map (λ r. entry_of r.value) c.args.moment.now.ahead.now) c.args.moment.now.beyond) (held_in plan c.args.holding.now.slots c.forks.new.out.found.items) c.forks.new.out.instances.items (held_in plan c.hold_all.new.holding.slots c.hold_all.new.born.found.items) ((c.in_ok-hold_all.ensures {u = tt}).joins)),
    )

pub returns-in_err-forks-clause-cost : goal.returns-in_err-forks-clause-cost
returns-in_err-forks-clause-cost g c = flat_ticks c.args.moment.now.focus (length c.args.moment.now.plan.now.chronicle.events) c.args.steps.now c.forks.new.steps (length (members c.args.holding.now.slots.slots)) c.forks.ensures.cost c.requires.moment.flat

pub returns-in_err-hold_all-clause-cost : goal.returns-in_err-hold_all-clause-cost
returns-in_err-hold_all-clause-cost g c = flat_ticks c.args.moment.now.focus (length c.args.moment.now.plan.now.chronicle.events) c.args.steps.now c.forks.new.steps (length (members c.args.holding.now.slots.slots)) c.forks.ensures.cost c.requires.moment.flat

pub returns-clause-cost : goal.returns-clause-cost
returns-clause-cost g c = flat_ticks c.args.moment.now.focus (length c.args.moment.now.plan.now.chronicle.events) c.args.steps.now c.forks.new.steps (length (members c.args.holding.now.slots.slots)) c.forks.ensures.cost c.requires.moment.flat
