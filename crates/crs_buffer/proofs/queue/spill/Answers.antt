use Rattle.std.proofs.Common.{sym, subst}
use Rattle.std.specs.List.Sorted.{IsStrictlySortedBy}
use Rattle.crs_buffer.specs.HeldOrder.{held_cmp}
use Rattle.crs_buffer.proofs.queue.spill.Goals as goal

pub move_first-requires : goal.move_first-requires
move_first-requires c = record { sorted = subst (IsStrictlySortedBy held_cmp) (sym c.loop-set.invariant) c.requires.sorted }
