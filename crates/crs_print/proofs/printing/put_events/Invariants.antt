use Rattle.std.proofs.Common.{◌≡◌, ◌++◌, drop, map}
use Rattle.std.specs.List.{flat_map, AllByRecursion}
use Rattle.crs_model.specs.Renaming as renamed
use Rattle.crs_model.specs.SeenModels as view
use Rattle.crs_grammar.specs.Canon.{statement_line}
use Rattle.crs_print.specs.Said as said
use Rattle.crs_print.proofs.printing.put_events.Given as goal

-- those so far and those of what is left
abbrev pub invariant-loop-e : goal.invariant-loop-e
invariant-loop-e l = record {
  told : l.out.items ++ flat_map statement_line (said.events l.symbols.texts l.variables (drop l.e-index l.events)) ≡ l.fn.out.items ++ flat_map statement_line (said.events l.symbols.texts l.variables l.events);
  points : AllByRecursion (λ e. said.Has l.symbols.texts e.point) (map view.event_of (drop l.e-index l.events));
  patterns : AllByRecursion (λ e. renamed.IsPatternOf (said.Has l.symbols.texts) e.pattern) (map view.event_of (drop l.e-index l.events));
}
