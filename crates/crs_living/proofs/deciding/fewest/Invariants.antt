use Rattle.std.proofs.Common.{◌<◌, length}
use Rattle.crs_living.proofs.deciding.fewest.Given as goal

abbrev pub invariant-loop-i : goal.invariant-loop-i
invariant-loop-i l = l.place < length l.todo
