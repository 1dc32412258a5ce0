use Rattle.std.proofs.Common.{◌≡◌, ◌++◌, drop, map}
use Rattle.crs_model.specs.SeenModels as view
use Rattle.crs_parse.specs.Meant as meant
use Rattle.crs_model.specs.Renaming as renamed
use Rattle.crs_parse.specs.HeldStatements as held
use Rattle.crs_grammar.specs.SeenStatements as seen
use Rattle.crs_parse.proofs.numbering.terms.Given as goal

-- those so far and those of what is left
abbrev pub invariant-loop-t : goal.invariant-loop-t
invariant-loop-t l = record {
  told : map (renamed.renamed_term (renamed.text_in l.symbols.texts)) (map view.term_of l.out) ++ map (meant.term_of (map (λ t. t.now) l.variables)) (map seen.term_of (drop l.t-index l.terms))
      ≡ map (meant.term_of (map (λ t. t.now) l.variables)) (map seen.term_of l.terms);
  held : held.AreHeldTerms l.symbols.texts (map seen.term_of (drop l.t-index l.terms));
}
