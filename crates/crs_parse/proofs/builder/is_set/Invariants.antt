use Rattle.std.proofs.Common.{◌≡◌, drop, map}
use Rattle.crs_parse.specs.Faults as faults
use Rattle.crs_parse.specs.SeenReading as see
use Rattle.crs_parse.proofs.builder.is_set.Given as goal

-- the answer for what is left is the answer for all
abbrev pub invariant-loop-s : goal.invariant-loop-s
invariant-loop-s l = faults.is_of (map (λ s. s.0) (map see.set_of (drop l.s-index l.sets))) l.text ≡ faults.is_of (map (λ s. s.0) (map see.set_of l.sets)) l.text
