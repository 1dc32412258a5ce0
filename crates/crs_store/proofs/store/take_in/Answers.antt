use Rattle.std.proofs.Common.{◌∙◌, ◌++◌, length, map, sym, ap, subst, inl, arith}
use Rattle.crs_base.specs.declared.entry.Entry.{Entry as CodeEntry}
use Rattle.crs_base.specs.Seen.{entry_of}
use Rattle.crs_instance.specs.Instances.{IsOf}
use Rattle.crs_living.specs.Ahead.{MayGo}
use Rattle.crs_store.specs.Forkings.{AreForksOfAll}
use Rattle.crs_store.specs.Found.{founds, held_in}
use Rattle.crs_store.specs.Joins.{Renews}
use Rattle.crs_waiting.specs.Orders.{IsOvertaken}
use Rattle.crs_living.specs.Slots.{members}
use Rattle.crs_store.specs.Tidy.{IsTidy}
use Rattle.crs_living.specs.Windows.{IsAble, IsFollowed, IsPassed}
use Rattle.crs_store.proofs.Assembled.{tidy_all, tidy_standing, tidy_linked, few_ticks}
use Rattle.crs_store.proofs.Births.{born_found, born_open, born_part}
use Rattle.crs_store.proofs.Born.{forks_more, founds_all, founds_followed, founds_passed, founds_whole}
use Rattle.crs_waiting.proofs.Linked.{within_linked}
use Rattle.crs_store.proofs.Joined.{joins_both, part_of}
use Rattle.crs_store.proofs.Taken.{taken_anew}
use Rattle.crs_store.proofs.Overtaken.{free_stays}
use Rattle.crs_store.proofs.store.take_in.Goals as goal

pub forks-requires-clause-of : goal.forks-requires-clause-of
forks-requires-clause-of g c = tidy_all c.args.moment.now.plan.now c.args.moment.now.focus c.args.moment.now.hooks.now c.follow.new.holding c.deref.result.now.date ((c.in_ok-follow.ensures {u = tt}).tidy)

pub forks-requires-clause-linked : goal.forks-requires-clause-linked
forks-requires-clause-linked g c =
    let tidy = (c.in_ok-follow.ensures {u = tt}).tidy in
    tidy_linked c.args.moment.now.plan.now c.args.moment.now.focus c.args.moment.now.hooks.now c.follow.new.holding c.deref.result.now.date tidy c.args.moment.now.entry.now.value.date
    (within_linked c.args.moment.now.plan.now c.deref.result.now.date c.args.moment.now.entry.now.value.date c.requires.moment.date (inl (let e = ap (λ (x : CodeEntry). x.date) c.deref.ensures in omega (arith, e))))

pub returns-in_err-forks-clause-cost : goal.returns-in_err-forks-clause-cost
returns-in_err-forks-clause-cost g c = λ flat.
    few_ticks (IsFollowed c.args.moment.now.plan.now c.args.moment.now.history.now (entry_of c.deref.result.now) c.args.moment.now.since) (IsAble c.args.moment.now.plan.now c.args.moment.now.focus c.deref.result.now.date) (length c.args.moment.now.plan.now.chronicle.events) c.args.steps.now c.forks.new.steps (members c.args.holding.now.slots.slots) (members c.follow.new.holding.slots.slots) ((c.in_ok-follow.ensures {u = tt}).renews) (c.forks.ensures.cost flat)

pub pass-requires-clause-tidy : goal.pass-requires-clause-tidy
pass-requires-clause-tidy g c =
    subst (λ (e : CodeEntry). IsTidy c.args.moment.now.plan.now c.args.moment.now.focus c.args.moment.now.hooks.now.events.items c.args.moment.now.hooks.now.windows.items c.follow.new.holding.slots c.forks.new.waiting c.follow.new.holding.dues c.follow.new.holding.ripe.items e.date) (c.deref.ensures ∙ sym c.deref-3.ensures)
    (tidy_standing c.args.moment.now.plan.now c.args.moment.now.focus c.args.moment.now.hooks.now c.follow.new.holding c.deref.result.now.date ((c.in_ok-follow.ensures {u = tt}).tidy) c.forks.new.waiting c.forks.ensures.standing)

pub returns-in_err-pass-clause-cost : goal.returns-in_err-pass-clause-cost
returns-in_err-pass-clause-cost g c = λ flat.
    few_ticks (IsFollowed c.args.moment.now.plan.now c.args.moment.now.history.now (entry_of c.deref.result.now) c.args.moment.now.since) (IsAble c.args.moment.now.plan.now c.args.moment.now.focus c.deref.result.now.date) (length c.args.moment.now.plan.now.chronicle.events) c.args.steps.now c.forks.new.steps (members c.args.holding.now.slots.slots) (members c.follow.new.holding.slots.slots) ((c.in_ok-follow.ensures {u = tt}).renews) (c.forks.ensures.cost flat)

pub returns-in_err-hold_all-clause-cost : goal.returns-in_err-hold_all-clause-cost
returns-in_err-hold_all-clause-cost g c = λ flat.
    few_ticks (IsFollowed c.args.moment.now.plan.now c.args.moment.now.history.now (entry_of c.deref.result.now) c.args.moment.now.since) (IsAble c.args.moment.now.plan.now c.args.moment.now.focus c.deref.result.now.date) (length c.args.moment.now.plan.now.chronicle.events) c.args.steps.now c.forks.new.steps (members c.args.holding.now.slots.slots) (members c.follow.new.holding.slots.slots) ((c.in_ok-follow.ensures {u = tt}).renews) (c.forks.ensures.cost flat)

pub hold_all-requires-clause-kept : goal.hold_all-requires-clause-kept
hold_all-requires-clause-kept g c =
    let f = (c.in_ok-forks.ensures {u = tt}).forks in
    born_found c.args.moment.now.plan.now _ c.forks.new.out.instances.items c.args.born.now.found.items c.forks.new.out.found.items f.more f.born (IsOf c.args.moment.now.plan.now) f.of c.requires.kept

pub hold_all-requires-clause-of : goal.hold_all-requires-clause-of
hold_all-requires-clause-of g c =
    let f = (c.in_ok-forks.ensures {u = tt}).forks in
    born_open c.args.moment.now.plan.now _ c.forks.new.out.instances.items c.args.born.now.found.items c.forks.new.out.found.items f.more f.born (IsOf c.args.moment.now.plan.now) f.of

pub hold_all-requires-clause-able : goal.hold_all-requires-clause-able
hold_all-requires-clause-able g c =
    let f = (c.in_ok-forks.ensures {u = tt}).forks in
    born_open c.args.moment.now.plan.now _ c.forks.new.out.instances.items c.args.born.now.found.items c.forks.new.out.found.items f.more f.born (IsAble c.args.moment.now.plan.now c.args.moment.now.focus c.args.moment.now.until) f.able

pub returns-clause-taken : goal.returns-clause-taken
returns-clause-taken g c =
    let plan = c.args.moment.now.plan.now in
    let focus = c.args.moment.now.focus in
    let history = c.args.moment.now.history.now in
    let x = c.args.moment.now.entry.now.value in
    let Out = IsOvertaken plan focus c.args.moment.now.hooks.now.events.items c.args.moment.now.behind (entry_of x) in
    let rs = c.args.born.now.found.items in
    let held = members c.args.holding.now.slots.slots in
    let kept = members c.follow.new.holding.slots.slots in
    let stay = members c.pass.new.holding.slots.slots in
    let renews = subst (λ (e : CodeEntry). Renews (IsFollowed plan history (entry_of e) c.args.moment.now.since) (IsAble plan focus e.date) held kept) c.deref.ensures ((c.in_ok-follow.ensures {u = tt}).renews) in
    let passes = subst (λ (e : CodeEntry). Renews (IsPassed plan history e.date c.args.moment.now.until) (IsAble plan focus c.args.moment.now.until) kept stay) c.deref-3.ensures ((c.in_ok-pass.ensures {u = tt}).renews) in
    let f = (c.in_ok-forks.ensures {u = tt}).forks in
    let more = f.more in
    let forks = subst (λ (e : CodeEntry). AreForksOfAll plan focus Out history (entry_of x) e.date c.args.moment.now.until kept more) c.deref-2.ensures f.are in
    let all = held_in plan c.pass.new.holding.slots rs in (
      all ++ more,
      taken_anew plan focus Out c.requires.moment.proper history (entry_of x) c.args.moment.now.until c.args.moment.now.since (held_in plan c.args.holding.now.slots rs) (held_in plan c.follow.new.holding.slots rs) more all (all ++ more) (founds_all plan rs c.requires.kept c.args.holding.now.slots (tidy_all plan focus c.args.moment.now.hooks.now c.args.holding.now c.args.moment.now.since c.requires.tidy))
          (founds_followed plan rs c.requires.kept focus history (entry_of x) c.args.moment.now.since x.date held kept renews) (free_stays plan focus c.args.moment.now.hooks.now.events.items c.args.moment.now.behind (entry_of x)) (forks_more plan focus Out history (entry_of x) x.date c.args.moment.now.until kept (founds plan rs) more (founds_whole plan rs c.requires.kept) forks) (founds_passed plan rs c.requires.kept focus history x.date c.args.moment.now.until kept stay passes) (joins_both all more),
      born_part plan _ (MayGo plan focus (map (λ r. entry_of r.value) c.args.moment.now.ahead.now) c.args.moment.now.beyond) c.pass.new.holding.slots c.forks.new.out.instances.items rs c.forks.new.out.found.items more (held_in plan c.hold_all.new.holding.slots c.hold_all.new.born.found.items) f.born
          (part_of (MayGo plan focus (map (λ r. entry_of r.value) c.args.moment.now.ahead.now) c.args.moment.now.beyond) (held_in plan c.pass.new.holding.slots c.forks.new.out.found.items) c.forks.new.out.instances.items (held_in plan c.hold_all.new.holding.slots c.hold_all.new.born.found.items) ((c.in_ok-hold_all.ensures {u = tt}).joins)),
    )

pub returns-clause-cost : goal.returns-clause-cost
returns-clause-cost g c = λ flat.
    few_ticks (IsFollowed c.args.moment.now.plan.now c.args.moment.now.history.now (entry_of c.deref.result.now) c.args.moment.now.since) (IsAble c.args.moment.now.plan.now c.args.moment.now.focus c.deref.result.now.date) (length c.args.moment.now.plan.now.chronicle.events) c.args.steps.now c.forks.new.steps (members c.args.holding.now.slots.slots) (members c.follow.new.holding.slots.slots) ((c.in_ok-follow.ensures {u = tt}).renews) (c.forks.ensures.cost flat)
