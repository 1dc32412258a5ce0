use Rattle.std.proofs.Common.{rules, refl}
use Rattle.std.specs.Prelude.{None, true}
use Rattle.crs_living.proofs.Counted.{went_one, went_some}
use Rattle.crs_living.proofs.slots.Slots.remove.Goals as goal

pub overflow_sub-self : goal.overflow_sub-self
overflow_sub-self c = went_some c.self.inside.slots.items c.args.place c.self.inside.serials.items c.self.inside.count c.index.result.now None true refl (search rules) (search rules) (search rules) c.self.invariant

pub invariant_of-self : goal.invariant_of-self
invariant_of-self c = went_one c.self.inside.slots.items c.args.place c.self.inside.serials.items c.raise.new.serials.items c.self.inside.count c.index.result.now None true refl (search rules) (search rules) (search rules) c.self.invariant c.raise.ensures.len
