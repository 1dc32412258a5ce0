use Rattle.std.proofs.Common.{◌≡◌, drop, map}
use Rattle.crs_parse.specs.Faults as faults
use Rattle.crs_grammar.specs.SeenStatements as seen
use Rattle.crs_parse.proofs.builder.is_emitted.Given as goal

-- the answer for what is left is the answer for all
abbrev pub invariant-loop-e : goal.invariant-loop-e
invariant-loop-e l = faults.is_of (map (λ e. e.pattern.name) (map seen.emission_of (drop l.e-index l.emits))) l.name ≡ faults.is_of (map (λ e. e.pattern.name) (map seen.emission_of l.emits)) l.name
