use Rattle.std.proofs.Common.{◌≡◌, ◌++◌, drop}
use Rattle.std.specs.List.{flat_map}
use Rattle.crs_grammar.specs.Canon.{statement_line}
use Rattle.crs_print.specs.Said as said
use Rattle.crs_print.proofs.printing.put_differs.Given as goal

-- those so far and those of what is left
abbrev pub invariant-loop-d : goal.invariant-loop-d
invariant-loop-d l = l.out.items ++ flat_map statement_line (said.differs l.symbols.texts l.variables (drop l.d-index l.differs)) ≡ l.fn.out.items ++ flat_map statement_line (said.differs l.symbols.texts l.variables l.differs)
