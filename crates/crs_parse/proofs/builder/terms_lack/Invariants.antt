use Rattle.std.proofs.Common.{◌≡◌, drop, map}
use Rattle.std.specs.List.{list_any}
use Rattle.crs_parse.specs.Faults as faults
use Rattle.crs_grammar.specs.SeenStatements as seen
use Rattle.crs_parse.proofs.builder.terms_lack.Given as goal

-- the answer for what is left is the answer for all
abbrev pub invariant-loop-t : goal.invariant-loop-t
invariant-loop-t l = list_any (faults.lacks (map (λ t. t.now) l.variables)) (map seen.term_of (drop l.t-index l.terms)) ≡ list_any (faults.lacks (map (λ t. t.now) l.variables)) (map seen.term_of l.terms)
