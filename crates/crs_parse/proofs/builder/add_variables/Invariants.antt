use Rattle.std.proofs.Common.{◌≡◌, drop, map}
use Rattle.crs_parse.specs.Faults as faults
use Rattle.crs_grammar.specs.SeenStatements as seen
use Rattle.crs_parse.proofs.builder.add_variables.Given as goal
use Rattle.crs_base.specs.Symbols.{with_texts}

-- the answer for what is left is the answer for all
abbrev pub invariant-loop-t : goal.invariant-loop-t
invariant-loop-t l = with_texts (map (λ t. t.now) l.variables.items) (faults.variables_in (map seen.term_of (drop l.t-index l.terms))) ≡ with_texts (map (λ t. t.now) l.fn.variables.items) (faults.variables_in (map seen.term_of l.terms))
