use Rattle.std.proofs.Common.{rules}
use Rattle.crs_living.proofs.Counted.{went_one, went_some, stayed_one}
use Rattle.crs_living.proofs.slots.Slots.follow_at.Goals as goal

pub overflow_sub-self : goal.overflow_sub-self
overflow_sub-self c = went_some c.self.inside.slots.items c.args.place c.self.inside.serials.items c.self.inside.count c.index_mut.result.now c.follow_slot.new.slot c.follow_slot.result c.if-follow_slot.true (search rules) (search rules) c.follow_slot.ensures.gone c.self.invariant

pub invariant_of-self : goal.invariant_of-self
invariant_of-self c = went_one c.self.inside.slots.items c.args.place c.self.inside.serials.items c.raise.new.serials.items c.self.inside.count c.index_mut.result.now c.follow_slot.new.slot c.follow_slot.result c.if-follow_slot.true (search rules) (search rules) c.follow_slot.ensures.gone c.self.invariant c.raise.ensures.len

pub invariant_of-self-else-follow_slot : goal.invariant_of-self-else-follow_slot
invariant_of-self-else-follow_slot c = stayed_one c.self.inside.slots.items c.args.place c.self.inside.serials.items c.self.inside.count c.index_mut.result.now c.follow_slot.new.slot c.follow_slot.result c.if-follow_slot.false (search rules) (search rules) c.follow_slot.ensures.gone c.self.invariant
