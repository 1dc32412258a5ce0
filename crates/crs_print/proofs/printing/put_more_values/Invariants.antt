use Rattle.std.proofs.Common.{◌≡◌, ◌++◌, ◌∷◌, drop}
use Rattle.std.specs.List.{flat_map}
use Rattle.crs_model.specs.Renaming as renamed
use Rattle.crs_grammar.specs.Forms as forms
use Rattle.crs_print.specs.Said as said
use Rattle.crs_print.proofs.printing.put_more_values.Given as goal

-- those so far and those of what is left
abbrev pub invariant-loop-v : goal.invariant-loop-v
invariant-loop-v l = record {
  told : l.out.items ++ flat_map (λ v. 44 ∷ 32 ∷ said.text_of (forms.symbol_form v)) (said.texts_of l.symbols.texts (drop l.v-index l.values))
      ≡ l.fn.out.items ++ flat_map (λ v. 44 ∷ 32 ∷ said.text_of (forms.symbol_form v)) (said.texts_of l.symbols.texts l.values);
  has : renamed.AreKnown l.symbols.texts (drop l.v-index l.values);
}
