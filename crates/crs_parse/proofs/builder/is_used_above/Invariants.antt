use Rattle.std.proofs.Common.{◌≡◌, drop, map}
use Rattle.std.specs.List.{list_any}
use Rattle.crs_parse.specs.Faults as faults
use Rattle.crs_parse.specs.SeenReading as see
use Rattle.crs_parse.proofs.builder.is_used_above.Given as goal

-- the answer for what is left is the answer for all
abbrev pub invariant-loop-d : goal.invariant-loop-d
invariant-loop-d l = list_any (λ d. faults.uses d.1 l.name) (map see.closed_of (drop l.d-index l.done)) ≡ list_any (λ d. faults.uses d.1 l.name) (map see.closed_of l.done)
