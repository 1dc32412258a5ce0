use Rattle.std.proofs.Common.{◌≡◌, ◌++◌, drop, map}
use Rattle.std.specs.List.{AllByRecursion}
use Rattle.crs_model.specs.SeenModels as view
use Rattle.crs_parse.specs.Meant as meant
use Rattle.crs_model.specs.Renaming as renamed
use Rattle.crs_parse.specs.HeldStatements as held
use Rattle.crs_parse.specs.SeenReading as see
use Rattle.crs_parse.proofs.numbering.names.Given as goal

-- those so far and those of what is left
abbrev pub invariant-loop-n : goal.invariant-loop-n
invariant-loop-n l = record {
  told : map (renamed.renamed_name (renamed.text_in l.symbols.texts)) (map view.name_of l.out) ++ map meant.name_of (meant.names_that l.derived (map see.name_of (drop l.n-index l.names))) ≡ map meant.name_of (meant.names_that l.derived (map see.name_of l.names));
  held : AllByRecursion (held.IsHeldName l.symbols.texts) (map see.name_of (drop l.n-index l.names));
}
