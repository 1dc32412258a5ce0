use Rattle.std.proofs.Common.{◌≡◌, drop}
use Rattle.std.specs.Prelude.{slice_get}
use Rattle.crs_living.specs.Slots.{members}
use Rattle.crs_living.proofs.slots.nth_of.Given as goal

abbrev pub invariant-loop-slot : goal.invariant-loop-slot
invariant-loop-slot l = slice_get (members (drop l.slot-index l.slots)) l.left ≡ slice_get (members l.slots) l.n
