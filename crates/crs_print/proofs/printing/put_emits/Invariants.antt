use Rattle.std.proofs.Common.{◌≡◌, ◌++◌, drop, map}
use Rattle.std.specs.List.{flat_map, AllByRecursion}
use Rattle.crs_model.specs.Renaming as renamed
use Rattle.crs_model.specs.SeenModels as view
use Rattle.crs_grammar.specs.Canon.{statement_line}
use Rattle.crs_print.specs.Said as said
use Rattle.crs_print.proofs.printing.put_emits.Given as goal

-- those so far and those of what is left
abbrev pub invariant-loop-e : goal.invariant-loop-e
invariant-loop-e l = record {
  told : l.out.items ++ flat_map statement_line (said.emits l.symbols.texts l.variables l.points (drop l.e-index l.emits)) ≡ l.fn.out.items ++ flat_map statement_line (said.emits l.symbols.texts l.variables l.points l.emits);
  has : AllByRecursion (λ e. renamed.IsPatternOf (said.Has l.symbols.texts) e.pattern) (map view.emit_of (drop l.e-index l.emits));
}
