use Rattle.std.proofs.Common.{◌≡◌, drop, map}
use Rattle.crs_parse.specs.Faults as faults
use Rattle.crs_parse.specs.SeenReading as see
use Rattle.crs_parse.proofs.builder.is_chronicle.Given as goal

-- the answer for what is left is the answer for all
abbrev pub invariant-loop-d : goal.invariant-loop-d
invariant-loop-d l = faults.is_of (map (λ d. d.1.name) (map see.closed_of (drop l.d-index l.done))) l.text ≡ faults.is_of (map (λ d. d.1.name) (map see.closed_of l.done)) l.text
