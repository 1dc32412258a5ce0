use Rattle.std.proofs.Common.{◌≡◌, ◌++◌, drop}
use Rattle.std.specs.List.{flat_map}
use Rattle.crs_model.specs.Renaming as renamed
use Rattle.crs_grammar.specs.Canon.{statement_line}
use Rattle.crs_print.specs.Said as said
use Rattle.crs_print.proofs.printing.put_free.Given as goal

-- those so far and those of what is left
abbrev pub invariant-loop-p : goal.invariant-loop-p
invariant-loop-p l = record {
  told : l.out.items ++ flat_map statement_line (said.free l.symbols.texts (drop l.p-index l.free)) ≡ l.fn.out.items ++ flat_map statement_line (said.free l.symbols.texts l.free);
  has : renamed.AreKnown l.symbols.texts (drop l.p-index l.free);
}
