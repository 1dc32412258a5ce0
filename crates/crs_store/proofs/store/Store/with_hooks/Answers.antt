use Rattle.std.proofs.Common.{refl, subst, ◌≡◌, ◌∷◌, [], length}
use Rattle.std.specs.Prelude.{false, None, replicate}
use Rattle.crs_instance.specs.Instances.{InstanceState, IsOf}
use Rattle.crs_model.specs.declared.plan.Plan.{Plan}
use Rattle.crs_store.specs.Found.{held_in}
use Rattle.crs_living.specs.Slots.{members}
use Rattle.crs_store.proofs.Assembled.{all_placed, held_alone}
use Rattle.crs_store.proofs.Standing.{new_stands}
use Rattle.crs_store.proofs.store.Store.with_hooks.Goals as goal

pub returns-clause-stands : goal.returns-clause-stands
returns-clause-stands c =
    let root = subst (λ (p : Plan). (i : InstanceState) × (members c.in_ok-holding.holding.slots.slots ≡ i ∷ []) × IsOf p i × (i.partial ≡ replicate (length p.chronicle.events) None)) c.deref.ensures ((c.in_ok-holding.ensures {u = tt}).root) in
    let alone = held_alone c.args.plan.value c.in_ok-holding.holding.slots c.new-found.result.items root.0 c.new-found.ensures.items root.1 in
    new_stands c.args.plan.value _ c.requires.proper root.0 root.2 root.3 (record { plan = c.args.plan.value; number = c.args.number; focus = _; ranks = c.args.hooks.ranks.value.items; held = held_in c.args.plan.value c.in_ok-holding.holding.slots c.new-found.result.items; placed = length (members c.in_ok-holding.holding.slots.slots); date = 0; stopped = false }) refl refl alone refl

pub returns-clause-placed : goal.returns-clause-placed
returns-clause-placed c = all_placed c.args.plan.value c.in_ok-holding.holding.slots c.new-found.result.items c.new-found.ensures.items
