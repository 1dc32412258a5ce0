use Rattle.std.proofs.Common.{◌≡◌, ◌++◌, drop, map}
use Rattle.std.specs.List.{AllByRecursion}
use Rattle.crs_model.specs.SeenModels as view
use Rattle.crs_parse.specs.Meant as meant
use Rattle.crs_model.specs.Renaming as renamed
use Rattle.crs_parse.specs.HeldStatements as held
use Rattle.crs_parse.specs.SeenReading as see
use Rattle.crs_parse.proofs.numbering.chronicles.Given as goal

-- those so far and those of what is left
abbrev pub invariant-loop-d : goal.invariant-loop-d
invariant-loop-d l = record {
  told : map (renamed.renamed_chronicle (renamed.text_in l.symbols.texts)) (map view.chronicle_of l.out) ++ map meant.chronicle_of (map see.closed_of (drop l.d-index l.done)) ≡ map meant.chronicle_of (map see.closed_of l.done);
  held : AllByRecursion (λ d. held.IsHeldChronicle l.symbols.texts d.1) (map see.closed_of (drop l.d-index l.done));
}
