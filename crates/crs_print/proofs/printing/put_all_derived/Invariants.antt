use Rattle.std.proofs.Common.{◌≡◌, ◌++◌, drop, map}
use Rattle.std.specs.List.{flat_map, AllByRecursion}
use Rattle.crs_model.specs.Renaming as renamed
use Rattle.crs_model.specs.SeenModels as view
use Rattle.crs_grammar.specs.Canon.{statement_line}
use Rattle.crs_print.specs.Said as said
use Rattle.crs_print.proofs.printing.put_all_derived.Given as goal

-- those so far and those of what is left
abbrev pub invariant-loop-n : goal.invariant-loop-n
invariant-loop-n l = record {
  told : l.out.items ++ flat_map statement_line (said.all_derived l.symbols.texts (drop l.n-index l.names)) ≡ l.fn.out.items ++ flat_map statement_line (said.all_derived l.symbols.texts l.names);
  has : AllByRecursion (renamed.IsNameOf (said.Has l.symbols.texts)) (map view.name_of (drop l.n-index l.names));
}
