use Rattle.std.proofs.Common.{◌≡◌, ◌++◌, drop, map}
use Rattle.std.specs.List.{AllByRecursion}
use Rattle.crs_model.specs.Renaming as renamed
use Rattle.crs_model.specs.SeenModels as view
use Rattle.crs_grammar.specs.Canon.{statements_text}
use Rattle.crs_print.specs.Said as said
use Rattle.crs_print.proofs.printing.put_chronicles.Given as goal

-- those so far and those of what is left
abbrev pub invariant-loop-c : goal.invariant-loop-c
invariant-loop-c l = record {
  told : l.out.items ++ statements_text (said.chronicles l.symbols.texts (drop l.c-index l.chronicles)) ≡ l.fn.out.items ++ statements_text (said.chronicles l.symbols.texts l.chronicles);
  has : AllByRecursion (renamed.IsChronicleOf (said.Has l.symbols.texts)) (map view.chronicle_of (drop l.c-index l.chronicles));
}
