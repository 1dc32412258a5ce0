use Rattle.std.proofs.Common.{◌≡◌, ◌++◌, drop, map}
use Rattle.std.specs.List.{AllByRecursion}
use Rattle.crs_model.specs.SeenModels as view
use Rattle.crs_parse.specs.Meant as meant
use Rattle.crs_model.specs.Renaming as renamed
use Rattle.crs_parse.specs.HeldStatements as held
use Rattle.crs_grammar.specs.SeenStatements as seen
use Rattle.crs_parse.proofs.numbering.emits.Given as goal

-- those so far and those of what is left
abbrev pub invariant-loop-e : goal.invariant-loop-e
invariant-loop-e l = record {
  told : map (renamed.renamed_emit (renamed.text_in l.symbols.texts)) (map view.emit_of l.out) ++ map (meant.emit_of (map (λ t. t.now) l.variables) (map (λ t. t.now) l.points)) (map seen.emission_of (drop l.e-index l.emits)) ≡ map (meant.emit_of (map (λ t. t.now) l.variables) (map (λ t. t.now) l.points)) (map seen.emission_of l.emits);
  held : AllByRecursion (held.IsHeldEmission l.symbols.texts) (map seen.emission_of (drop l.e-index l.emits));
}
