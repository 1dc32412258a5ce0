use Rattle.std.proofs.Common.{◌≡◌, ◌++◌, length}
use Rattle.std.specs.List.{flat_map}
use Rattle.crs_grammar.specs.Canon.{statement_line}
use Rattle.crs_print.specs.Said as said
use Rattle.crs_print.proofs.printing.put_distances.Given as goal

-- those so far and those of what is left
abbrev pub invariant-loop-left : goal.invariant-loop-left
invariant-loop-left l = l.out.items ++ flat_map statement_line (said.distances l.symbols.texts l.points l.left) ≡ l.fn.out.items ++ flat_map statement_line (said.distances l.symbols.texts l.points l.bounds)

abbrev pub decreases-loop-left : goal.decreases-loop-left
decreases-loop-left l = length l.left
