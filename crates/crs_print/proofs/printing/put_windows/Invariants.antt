use Rattle.std.proofs.Common.{◌≡◌, ◌++◌, drop, map}
use Rattle.std.specs.List.{flat_map, AllByRecursion}
use Rattle.crs_model.specs.Renaming as renamed
use Rattle.crs_model.specs.SeenModels as view
use Rattle.crs_grammar.specs.Canon.{statement_line}
use Rattle.crs_print.specs.Said as said
use Rattle.crs_print.proofs.printing.put_windows.Given as goal

-- those so far and those of what is left
abbrev pub invariant-loop-w : goal.invariant-loop-w
invariant-loop-w l = record {
  told : l.out.items ++ flat_map statement_line (said.windows l.symbols.texts l.variables l.points (drop l.w-index l.windows)) ≡ l.fn.out.items ++ flat_map statement_line (said.windows l.symbols.texts l.variables l.points l.windows);
  has : AllByRecursion (λ w. renamed.IsBodyOf (said.Has l.symbols.texts) w.body) (map view.window_of (drop l.w-index l.windows));
}
