use Rattle.std.proofs.Common.{◌≡◌, ◌++◌, drop, map}
use Rattle.std.specs.List.{AllByRecursion}
use Rattle.crs_model.specs.SeenModels as view
use Rattle.crs_parse.specs.Meant as meant
use Rattle.crs_model.specs.Renaming as renamed
use Rattle.crs_parse.specs.HeldStatements as held
use Rattle.crs_parse.specs.SeenReading as see
use Rattle.crs_parse.proofs.numbering.sets.Given as goal

-- those so far and those of what is left
abbrev pub invariant-loop-s : goal.invariant-loop-s
invariant-loop-s l = record {
  told : map (renamed.renamed_set (renamed.text_in l.symbols.texts)) (map view.set_of l.out) ++ map (meant.set_of (map (λ t. t.now) l.variables)) (map see.set_of (drop l.s-index l.sets)) ≡ map (meant.set_of (map (λ t. t.now) l.variables)) (map see.set_of l.sets);
  held : AllByRecursion (held.IsHeldSet l.symbols.texts) (map see.set_of (drop l.s-index l.sets));
}
