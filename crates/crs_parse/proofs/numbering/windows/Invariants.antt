use Rattle.std.proofs.Common.{◌≡◌, ◌++◌, drop, map}
use Rattle.std.specs.List.{AllByRecursion}
use Rattle.crs_model.specs.SeenModels as view
use Rattle.crs_parse.specs.Meant as meant
use Rattle.crs_model.specs.Renaming as renamed
use Rattle.crs_parse.specs.HeldStatements as held
use Rattle.crs_grammar.specs.SeenStatements as seen
use Rattle.crs_parse.proofs.numbering.windows.Given as goal

-- those so far and those of what is left
abbrev pub invariant-loop-w : goal.invariant-loop-w
invariant-loop-w l = record {
  told : map (renamed.renamed_window (renamed.text_in l.symbols.texts)) (map view.window_of l.out) ++ map (meant.window_of (map (λ t. t.now) l.variables) (map (λ t. t.now) l.points)) (map seen.window_of (drop l.w-index l.windows)) ≡ map (meant.window_of (map (λ t. t.now) l.variables) (map (λ t. t.now) l.points)) (map seen.window_of l.windows);
  held : AllByRecursion (held.IsHeldWindow l.symbols.texts) (map seen.window_of (drop l.w-index l.windows));
}
