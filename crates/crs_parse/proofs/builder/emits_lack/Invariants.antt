use Rattle.std.proofs.Common.{◌≡◌, drop, map}
use Rattle.std.specs.List.{list_any}
use Rattle.crs_parse.specs.Faults as faults
use Rattle.crs_grammar.specs.SeenStatements as seen
use Rattle.crs_parse.proofs.builder.emits_lack.Given as goal

-- the answer for what is left is the answer for all
abbrev pub invariant-loop-e : goal.invariant-loop-e
invariant-loop-e l = list_any (λ e. faults.pattern_lacks (map (λ t. t.now) l.variables) e.pattern) (map seen.emission_of (drop l.e-index l.emits)) ≡ list_any (λ e. faults.pattern_lacks (map (λ t. t.now) l.variables) e.pattern) (map seen.emission_of l.emits)
