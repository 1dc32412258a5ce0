use Rattle.std.proofs.Common.{rules, subst, sym}
use Rattle.crs_living.specs.Slots.{SlotsState, Opens}
use Rattle.crs_living.proofs.Counted.{put_in, puts, counted_few}
use Rattle.crs_living.proofs.slots.Slots.put.Goals as goal

pub overflow_add-self : goal.overflow_add-self
overflow_add-self c = let h = counted_few (record { slots = c.self.inside.slots.items; serials = c.self.inside.serials.items }) c.self.inside.count c.self.invariant in search (rules, h)

pub invariant_of-self : goal.invariant_of-self
invariant_of-self c =
    let o = subst (λ (s : SlotsState). Opens c.args.self.now s c.in_ok-place.place) (sym c.self.view_is) (c.in_ok-place.ensures {u = tt}) in
    put_in (record { slots = c.self.inside.slots.items; serials = c.self.inside.serials.items }) c.in_ok-place.place c.args.instance c.self.inside.count o.within o.empty c.self.invariant

pub returns : goal.returns
returns c =
    puts c.args.self.now (record { slots = c.self.inside.slots.items; serials = c.self.inside.serials.items }) c.in_ok-place.place c.args.instance
    (subst (λ (s : SlotsState). Opens c.args.self.now s c.in_ok-place.place) (sym c.self.view_is) (c.in_ok-place.ensures {u = tt}))
