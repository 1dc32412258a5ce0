use Rattle.std.proofs.Common.{◌≡◌, ◌++◌, ◌∷◌, drop}
use Rattle.std.specs.List.{flat_map}
use Rattle.crs_grammar.specs.Forms as forms
use Rattle.crs_print.specs.Said as said
use Rattle.crs_print.proofs.printing.put_more_terms.Given as goal

-- those so far and those of what is left
abbrev pub invariant-loop-t : goal.invariant-loop-t
invariant-loop-t l = record {
  told : l.out.items ++ flat_map (λ t. 44 ∷ 32 ∷ said.text_of (forms.term_form t)) (said.terms l.symbols.texts l.variables (drop l.t-index l.terms))
      ≡ l.fn.out.items ++ flat_map (λ t. 44 ∷ 32 ∷ said.text_of (forms.term_form t)) (said.terms l.symbols.texts l.variables l.terms);
  has : said.HaveTerms l.symbols.texts (drop l.t-index l.terms);
}
