use Rattle.std.proofs.Common.{◌≡◌, ◌++◌, drop, map}
use Rattle.std.specs.List.{flat_map, AllByRecursion}
use Rattle.crs_model.specs.SeenModels as view
use Rattle.crs_grammar.specs.Canon.{statement_line}
use Rattle.crs_print.specs.Said as said
use Rattle.crs_print.proofs.printing.put_sets.Given as goal

-- those so far and those of what is left
abbrev pub invariant-loop-s : goal.invariant-loop-s
invariant-loop-s l = record {
  told : l.out.items ++ flat_map statement_line (said.sets l.symbols.texts l.variables (drop l.s-index l.sets)) ≡ l.fn.out.items ++ flat_map statement_line (said.sets l.symbols.texts l.variables l.sets);
  has : AllByRecursion (λ s. AllByRecursion (said.Has l.symbols.texts) s.values) (map view.set_of (drop l.s-index l.sets));
}
