use Rattle.std.proofs.Common.{refl, subst, length}
use Rattle.crs_store.specs.Found.{held_in}
use Rattle.crs_living.specs.Slots.{members}
use Rattle.crs_store.specs.Stores.{StoreState, PassesOver}
use Rattle.crs_store.proofs.Passing.{offered_other}
use Rattle.crs_store.proofs.store.Store.pass_over.Goals as goal

pub returns : goal.returns
returns c =
    let seen : StoreState = record { plan = c.self.inside.plan.value; number = c.self.inside.number; focus = c.self.inside.focus; ranks = c.self.inside.hooks.ranks.value.items; held = held_in c.self.inside.plan.value c.self.inside.holding.slots c.self.inside.born.found.items; placed = length (members c.self.inside.holding.slots.slots); date = c.self.inside.date; stopped = c.self.inside.stopped } in
    subst (λ (s : StoreState). PassesOver s) c.self.view_is (λ history x until ahead beyond behind up other. offered_other seen seen history x until ahead beyond behind up refl c.self.invariant.0 other)
