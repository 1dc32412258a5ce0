use Rattle.std.proofs.Common.{◌≡◌, ◌≤◌, ◌+◌, ◌*◌, false, length, map, refl, sym, subst}
use Rattle.crs_base.specs.Seen.{entry_of}
use Rattle.crs_model.specs.declared.plan.Plan.{Plan}
use Rattle.crs_store.specs.Found.{founds, held_in}
use Rattle.crs_waiting.specs.Orders.{IsOvertaken}
use Rattle.crs_living.specs.Slots.{members}
use Rattle.crs_living.specs.Parts.{AllOf}
use Rattle.crs_store.specs.Stores.{StoreState, KeepsPlaces}
use Rattle.crs_store.specs.Sweeps.{TakesInSome}
use Rattle.crs_store.specs.Tidy.{IsTidyHolding}
use Rattle.crs_store.proofs.Assembled.{tidy_at_mark, founds_of, still_placed, more_ticks}
use Rattle.crs_store.proofs.Standing.{offered_from}
use Rattle.crs_store.proofs.store.Store.take.Goals as goal

pub take_in-requires-clause-kept : goal.take_in-requires-clause-kept
take_in-requires-clause-kept g c = subst (λ (p : Plan). AllOf p (founds p c.self.inside.born.found.items)) (sym c.deref-2.ensures) (founds_of c.self.inside.plan.value c.self.inside.holding.slots c.self.inside.born.found.items c.self.invariant.0.instances)

pub invariant_of-self : goal.invariant_of-self
invariant_of-self g c =
    tidy_at_mark c.self.inside.plan.value c.self.inside.hooks c.self.inside.number c.self.inside.focus c.self.inside.stopped (held_in c.self.inside.plan.value c.self.inside.holding.slots c.self.inside.born.found.items) (length (members c.self.inside.holding.slots.slots)) c.self.inside.date c.self.invariant.0 c.self.invariant.1 c.self.invariant.2 c.take_in.new.holding c.take_in.new.born.found.items c.args.coming.now.until c.requires.coming.small
    (subst (λ (p : Plan). IsTidyHolding p c.self.inside.focus c.self.inside.hooks c.take_in.new.holding c.args.coming.now.until) c.deref-2.ensures ((c.in-Ok.ensures {u = tt}).tidy))
    (subst (λ (p : Plan). AllOf p (founds p c.take_in.new.born.found.items)) c.deref-2.ensures ((c.in-Ok.ensures {u = tt}).kept))

pub returns-in-Ok-clause-placed : goal.returns-in-Ok-clause-placed
returns-in-Ok-clause-placed g c = λ e. subst (λ (s : StoreState). KeepsPlaces s (record { plan = c.self.inside.plan.value; number = c.self.inside.number; focus = c.self.inside.focus; ranks = c.self.inside.hooks.ranks.value.items; held = held_in c.self.inside.plan.value c.take_in.new.holding.slots c.take_in.new.born.found.items; placed = length (members c.take_in.new.holding.slots.slots); date = c.args.coming.now.until; stopped = c.self.inside.stopped })) c.self.view_is (still_placed c.self.inside.plan.value c.self.inside.holding.slots c.take_in.new.holding.slots c.self.inside.born.found.items c.take_in.new.born.found.items ((c.in-Ok.ensures {u = tt}).placed e))

pub returns-in-Ok-clause-stands : goal.returns-in-Ok-clause-stands
returns-in-Ok-clause-stands g c =
    let p = c.deref-2.result.now in
    let takes = subst (λ (q : Plan). TakesInSome p c.self.inside.focus (IsOvertaken p c.self.inside.focus c.self.inside.hooks.events.items c.args.coming.now.behind (entry_of c.args.entry.now.value)) c.args.history.now (entry_of c.args.entry.now.value) c.args.coming.now.until c.self.inside.date (map (λ r. entry_of r.value) c.args.coming.now.ahead.now) c.args.coming.now.beyond (held_in q c.self.inside.holding.slots c.self.inside.born.found.items) (held_in q c.take_in.new.holding.slots c.take_in.new.born.found.items)) c.deref-2.ensures ((c.in-Ok.ensures {u = tt}).taken) in
    offered_from (record { plan = c.self.inside.plan.value; number = c.self.inside.number; focus = c.self.inside.focus; ranks = c.self.inside.hooks.ranks.value.items; held = held_in c.self.inside.plan.value c.self.inside.holding.slots c.self.inside.born.found.items; placed = length (members c.self.inside.holding.slots.slots); date = c.self.inside.date; stopped = c.self.inside.stopped }) c.args.self.now
    (record { plan = c.self.inside.plan.value; number = c.self.inside.number; focus = c.self.inside.focus; ranks = c.self.inside.hooks.ranks.value.items; held = held_in c.self.inside.plan.value c.take_in.new.holding.slots c.take_in.new.born.found.items; placed = length (members c.take_in.new.holding.slots.slots); date = c.args.coming.now.until; stopped = c.self.inside.stopped }) c.self.inside.hooks.events.items c.self.invariant.2 c.args.history.now (entry_of c.args.entry.now.value) c.args.coming.now.until (map (λ r. entry_of r.value) c.args.coming.now.ahead.now) c.args.coming.now.beyond c.args.coming.now.behind c.requires.coming.later c.deref-2.result.now
    c.self.view_is c.self.invariant.0 c.deref-2.ensures (record { plan = refl; number = refl; focus = refl; ranks = refl }) refl takes

pub returns-in-Ok-clause-cost : goal.returns-in-Ok-clause-cost
returns-in-Ok-clause-cost g c = subst (λ (s : StoreState). s.focus ≡ false → c.take_in.new.steps ≤ c.args.steps.now + 2 * length s.plan.chronicle.events * length s.held) c.self.view_is (λ flat. more_ticks (length c.self.inside.plan.value.chronicle.events) c.args.steps.now c.take_in.new.steps c.self.inside.plan.value c.self.inside.holding.slots c.self.inside.born.found.items (subst (λ (p : Plan). c.take_in.new.steps ≤ c.args.steps.now + 2 * length p.chronicle.events * length (members c.self.inside.holding.slots.slots)) c.deref-2.ensures (c.take_in.ensures.cost flat)))

pub returns-in-Err-clause-cost : goal.returns-in-Err-clause-cost
returns-in-Err-clause-cost g c = subst (λ (s : StoreState). s.focus ≡ false → c.take_in.new.steps ≤ c.args.steps.now + 2 * length s.plan.chronicle.events * length s.held) c.self.view_is (λ flat. more_ticks (length c.self.inside.plan.value.chronicle.events) c.args.steps.now c.take_in.new.steps c.self.inside.plan.value c.self.inside.holding.slots c.self.inside.born.found.items (subst (λ (p : Plan). c.take_in.new.steps ≤ c.args.steps.now + 2 * length p.chronicle.events * length (members c.self.inside.holding.slots.slots)) c.deref-2.ensures (c.take_in.ensures.cost flat)))
