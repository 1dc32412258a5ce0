use Rattle.std.proofs.Common.{arith}
use Rattle.crs_living.proofs.Members.{members_few}
use Rattle.crs_living.proofs.slots.Slots.len.Goals as goal

pub returns-clause-small : goal.returns-clause-small
returns-clause-small c = let few = members_few c.self.inside.slots.items in let counted = c.self.invariant.counted in omega arith
