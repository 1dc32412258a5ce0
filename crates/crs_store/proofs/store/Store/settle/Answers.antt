use Rattle.std.proofs.Common.{◌≡◌, ◌≤◌, ◌^◌, refl, sym, subst, false, length, arith}
use Rattle.crs_base.specs.declared.entry.Entry.{Entry as CodeEntry}
use Rattle.crs_base.specs.Seen.{entry_of}
use Rattle.crs_model.specs.declared.plan.Plan.{Plan}
use Rattle.crs_store.specs.Found.{held_in}
use Rattle.crs_waiting.specs.Hooks.{AreHooks}
use Rattle.crs_waiting.specs.Orders.{AreOrdered}
use Rattle.crs_store.specs.Joins.{Renews}
use Rattle.crs_living.specs.Slots.{members}
use Rattle.crs_store.specs.Stores.{StoreState, IsStore, KeepsPlaces}
use Rattle.crs_store.specs.Tidy.{IsTidyHolding}
use Rattle.crs_living.specs.Windows.{IsAble, IsFollowed}
use Rattle.crs_store.proofs.Assembled.{tidy_at_mark, founds_of, still_placed}
use Rattle.crs_store.proofs.Born.{founds_followed}
use Rattle.crs_store.proofs.Prompting.{settled_from, settled_exact}
use Rattle.crs_store.proofs.store.Store.settle.Goals as goal

pub invariant_of-self : goal.invariant_of-self
invariant_of-self c =
    let x = c.args.entry.now.value in
    let small : x.date ≤ 2 ^ 42 = (let d = c.requires.date in omega arith) in
    let tidy = subst (λ (e : CodeEntry). IsTidyHolding c.deref-2.result.now c.self.inside.focus c.self.inside.hooks c.follow.new.holding e.date) c.deref-3.ensures ((c.in-Ok.ensures {u = tt}).tidy) in
    subst (λ (e : CodeEntry). IsStore (record { plan = c.self.inside.plan.value; number = c.self.inside.number; focus = c.self.inside.focus; ranks = c.self.inside.hooks.ranks.value.items; held = held_in c.self.inside.plan.value c.follow.new.holding.slots c.self.inside.born.found.items; placed = length (members c.follow.new.holding.slots.slots); date = e.date; stopped = c.self.inside.stopped }) × AreHooks c.self.inside.plan.value c.self.inside.hooks.events.items c.self.inside.hooks.windows.items × AreOrdered c.self.inside.plan.value c.self.inside.focus c.self.inside.hooks.ranks.value.items c.self.inside.hooks.events.items × (c.self.inside.stopped ≡ false → IsTidyHolding c.self.inside.plan.value c.self.inside.focus c.self.inside.hooks c.follow.new.holding e.date)) (sym c.deref-in-Ok.ensures)
    (tidy_at_mark c.self.inside.plan.value c.self.inside.hooks c.self.inside.number c.self.inside.focus c.self.inside.stopped (held_in c.self.inside.plan.value c.self.inside.holding.slots c.self.inside.born.found.items) (length (members c.self.inside.holding.slots.slots)) c.self.inside.date c.self.invariant.0 c.self.invariant.1 c.self.invariant.2 c.follow.new.holding c.self.inside.born.found.items x.date small
    (subst (λ (p : Plan). IsTidyHolding p c.self.inside.focus c.self.inside.hooks c.follow.new.holding x.date) c.deref-2.ensures tidy) (founds_of c.self.inside.plan.value c.self.inside.holding.slots c.self.inside.born.found.items c.self.invariant.0.instances))

pub returns-in-Ok-clause-coming : goal.returns-in-Ok-clause-coming
returns-in-Ok-clause-coming c =
    let x = c.args.entry.now.value in
    let history = c.args.history.now in
    let focus = c.self.inside.focus in
    let was = members c.self.inside.holding.slots.slots in
    let now = members c.follow.new.holding.slots.slots in
    let rs = c.self.inside.born.found.items in
    let here = subst (λ (e : CodeEntry). Renews (IsFollowed c.deref-2.result.now history (entry_of e) c.self.inside.date) (IsAble c.deref-2.result.now focus e.date) was now) c.deref-3.ensures ((c.in-Ok.ensures {u = tt}).renews) in
    let renews = subst (λ (p : Plan). Renews (IsFollowed p history (entry_of x) c.self.inside.date) (IsAble p focus x.date) was now) c.deref-2.ensures here in
    settled_from (record { plan = c.self.inside.plan.value; number = c.self.inside.number; focus = focus; ranks = c.self.inside.hooks.ranks.value.items; held = held_in c.self.inside.plan.value c.self.inside.holding.slots rs; placed = length was; date = c.self.inside.date; stopped = c.self.inside.stopped }) c.args.self.now
    (record { plan = c.self.inside.plan.value; number = c.self.inside.number; focus = focus; ranks = c.self.inside.hooks.ranks.value.items; held = held_in c.self.inside.plan.value c.follow.new.holding.slots rs; placed = length now; date = c.deref-in-Ok.result.now.date; stopped = c.self.inside.stopped }) history (entry_of x)
    c.self.view_is c.self.invariant.0 (record { plan = refl; number = refl; focus = refl; ranks = refl }) (λ i. (c.deref-in-Ok.ensures i).date) (founds_followed c.self.inside.plan.value rs (founds_of c.self.inside.plan.value c.self.inside.holding.slots c.self.inside.born.found.items c.self.invariant.0.instances) focus history (entry_of x) c.self.inside.date x.date was now renews)

pub returns-in-Ok-clause-stands : goal.returns-in-Ok-clause-stands
returns-in-Ok-clause-stands c =
    let new : StoreState = record { plan = c.self.inside.plan.value; number = c.self.inside.number; focus = c.self.inside.focus; ranks = c.self.inside.hooks.ranks.value.items; held = held_in c.self.inside.plan.value c.follow.new.holding.slots c.self.inside.born.found.items; placed = length (members c.follow.new.holding.slots.slots); date = c.deref-in-Ok.result.now.date; stopped = c.self.inside.stopped } in
    settled_exact c.args.self.now new c.args.history.now (entry_of c.args.entry.now.value) (returns-in-Ok-clause-coming c)

pub returns-in-Ok-clause-placed : goal.returns-in-Ok-clause-placed
returns-in-Ok-clause-placed c = subst (λ (s : StoreState). KeepsPlaces s (record { plan = c.self.inside.plan.value; number = c.self.inside.number; focus = c.self.inside.focus; ranks = c.self.inside.hooks.ranks.value.items; held = held_in c.self.inside.plan.value c.follow.new.holding.slots c.self.inside.born.found.items; placed = length (members c.follow.new.holding.slots.slots); date = c.deref-in-Ok.result.now.date; stopped = c.self.inside.stopped })) c.self.view_is (still_placed c.self.inside.plan.value c.self.inside.holding.slots c.follow.new.holding.slots c.self.inside.born.found.items c.self.inside.born.found.items refl)
