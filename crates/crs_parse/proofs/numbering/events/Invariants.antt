use Rattle.std.proofs.Common.{◌≡◌, ◌++◌, drop, map}
use Rattle.std.specs.List.{AllByRecursion}
use Rattle.crs_model.specs.SeenModels as view
use Rattle.crs_parse.specs.Meant as meant
use Rattle.crs_model.specs.Renaming as renamed
use Rattle.crs_parse.specs.HeldStatements as held
use Rattle.crs_grammar.specs.SeenStatements as seen
use Rattle.crs_parse.proofs.numbering.events.Given as goal

-- those so far and those of what is left
abbrev pub invariant-loop-e : goal.invariant-loop-e
invariant-loop-e l = record {
  told : map (renamed.renamed_event (renamed.text_in l.symbols.texts)) (map view.event_of l.out) ++ map (meant.event_of (map (λ t. t.now) l.variables)) (map seen.event_of (drop l.e-index l.events)) ≡ map (meant.event_of (map (λ t. t.now) l.variables)) (map seen.event_of l.events);
  held : AllByRecursion (held.IsHeldEvent l.symbols.texts) (map seen.event_of (drop l.e-index l.events));
}
