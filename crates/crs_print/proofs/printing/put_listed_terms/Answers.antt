use Rattle.crs_grammar.specs.Forms as forms
use Rattle.crs_print.specs.Said as said
use Rattle.crs_print.proofs.Listed.{listed_step}
use Rattle.crs_print.proofs.printing.put_listed_terms.Goals as goal

pub returns : goal.returns
returns c = listed_step forms.term_form (said.term c.args.symbols.now.texts c.args.variables.now c.args.first) (said.terms c.args.symbols.now.texts c.args.variables.now c.args.rest.now) _ _ _ c.in_ok-put_term.ensures c.in_ok-put_more_terms.ensures
