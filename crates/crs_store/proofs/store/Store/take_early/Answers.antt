use Rattle.std.proofs.Common.{◌≤◌, ◌+◌, ◌*◌, length, map, refl, sym, subst}
use Rattle.crs_base.specs.Seen.{entry_of}
use Rattle.crs_model.specs.declared.plan.Plan.{Plan}
use Rattle.crs_store.specs.Found.{founds, held_in}
use Rattle.crs_living.specs.Slots.{members}
use Rattle.crs_living.specs.Parts.{AllOf}
use Rattle.crs_store.specs.Stores.{StoreState, KeepsPlaces}
use Rattle.crs_store.specs.Sweeps.{TakesPromptSome}
use Rattle.crs_store.specs.Tidy.{IsTidyHolding}
use Rattle.crs_store.proofs.Assembled.{tidy_at_mark, founds_of, still_placed, more_ticks}
use Rattle.crs_store.proofs.Prompting.{prompted_from}
use Rattle.crs_store.proofs.store.Store.take_early.Goals as goal

pub take_prompt-requires-clause-kept : goal.take_prompt-requires-clause-kept
take_prompt-requires-clause-kept g c = subst (λ (p : Plan). AllOf p (founds p c.self.inside.born.found.items)) (sym c.deref-2.ensures) (founds_of c.self.inside.plan.value c.self.inside.holding.slots c.self.inside.born.found.items c.self.invariant.0.instances)

pub invariant_of-self : goal.invariant_of-self
invariant_of-self g c =
    tidy_at_mark c.self.inside.plan.value c.self.inside.hooks c.self.inside.number c.self.inside.focus c.self.inside.stopped (held_in c.self.inside.plan.value c.self.inside.holding.slots c.self.inside.born.found.items) (length (members c.self.inside.holding.slots.slots)) c.self.inside.date c.self.invariant.0 c.self.invariant.1 c.self.invariant.2 c.take_prompt.new.holding c.take_prompt.new.born.found.items c.self.inside.date c.self.invariant.0.early
    (subst (λ (p : Plan). IsTidyHolding p c.self.inside.focus c.self.inside.hooks c.take_prompt.new.holding c.self.inside.date) c.deref-2.ensures ((c.in-Ok.ensures {u = tt}).tidy))
    (subst (λ (p : Plan). AllOf p (founds p c.take_prompt.new.born.found.items)) c.deref-2.ensures ((c.in-Ok.ensures {u = tt}).kept))

pub returns-in-Ok-clause-placed : goal.returns-in-Ok-clause-placed
returns-in-Ok-clause-placed g c = λ e. subst (λ (s : StoreState). KeepsPlaces s (record { plan = c.self.inside.plan.value; number = c.self.inside.number; focus = c.self.inside.focus; ranks = c.self.inside.hooks.ranks.value.items; held = held_in c.self.inside.plan.value c.take_prompt.new.holding.slots c.take_prompt.new.born.found.items; placed = length (members c.take_prompt.new.holding.slots.slots); date = c.self.inside.date; stopped = c.self.inside.stopped })) c.self.view_is (still_placed c.self.inside.plan.value c.self.inside.holding.slots c.take_prompt.new.holding.slots c.self.inside.born.found.items c.take_prompt.new.born.found.items ((c.in-Ok.ensures {u = tt}).placed e))

pub returns-in-Ok-clause-stands : goal.returns-in-Ok-clause-stands
returns-in-Ok-clause-stands g c =
    let p = c.deref-2.result.now in
    let takes = subst (λ (q : Plan). TakesPromptSome p c.self.inside.focus c.args.history.now (entry_of c.args.entry.now.value) c.self.inside.date (map (λ r. entry_of r.value) c.args.ahead.now) c.args.beyond (held_in q c.self.inside.holding.slots c.self.inside.born.found.items) (held_in q c.take_prompt.new.holding.slots c.take_prompt.new.born.found.items)) c.deref-2.ensures ((c.in-Ok.ensures {u = tt}).taken) in
    prompted_from (record { plan = c.self.inside.plan.value; number = c.self.inside.number; focus = c.self.inside.focus; ranks = c.self.inside.hooks.ranks.value.items; held = held_in c.self.inside.plan.value c.self.inside.holding.slots c.self.inside.born.found.items; placed = length (members c.self.inside.holding.slots.slots); date = c.self.inside.date; stopped = c.self.inside.stopped }) c.args.self.now
    (record { plan = c.self.inside.plan.value; number = c.self.inside.number; focus = c.self.inside.focus; ranks = c.self.inside.hooks.ranks.value.items; held = held_in c.self.inside.plan.value c.take_prompt.new.holding.slots c.take_prompt.new.born.found.items; placed = length (members c.take_prompt.new.holding.slots.slots); date = c.self.inside.date; stopped = c.self.inside.stopped }) c.args.history.now (entry_of c.args.entry.now.value) (map (λ r. entry_of r.value) c.args.ahead.now) c.args.beyond c.deref-2.result.now
    c.self.view_is c.self.invariant.0 c.deref-2.ensures (record { plan = refl; number = refl; focus = refl; ranks = refl }) refl takes

pub returns-in-Ok-clause-cost : goal.returns-in-Ok-clause-cost
returns-in-Ok-clause-cost g c = subst (λ (s : StoreState). c.take_prompt.new.steps ≤ c.args.steps.now + 2 * length s.plan.chronicle.events * length s.held) c.self.view_is (more_ticks (length c.self.inside.plan.value.chronicle.events) c.args.steps.now c.take_prompt.new.steps c.self.inside.plan.value c.self.inside.holding.slots c.self.inside.born.found.items (subst (λ (p : Plan). c.take_prompt.new.steps ≤ c.args.steps.now + 2 * length p.chronicle.events * length (members c.self.inside.holding.slots.slots)) c.deref-2.ensures c.take_prompt.ensures.cost))

pub returns-in-Err-clause-cost : goal.returns-in-Err-clause-cost
returns-in-Err-clause-cost g c = subst (λ (s : StoreState). c.take_prompt.new.steps ≤ c.args.steps.now + 2 * length s.plan.chronicle.events * length s.held) c.self.view_is (more_ticks (length c.self.inside.plan.value.chronicle.events) c.args.steps.now c.take_prompt.new.steps c.self.inside.plan.value c.self.inside.holding.slots c.self.inside.born.found.items (subst (λ (p : Plan). c.take_prompt.new.steps ≤ c.args.steps.now + 2 * length p.chronicle.events * length (members c.self.inside.holding.slots.slots)) c.deref-2.ensures c.take_prompt.ensures.cost))
