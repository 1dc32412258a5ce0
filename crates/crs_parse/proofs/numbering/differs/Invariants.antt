use Rattle.std.proofs.Common.{◌≡◌, ◌++◌, drop, map}
use Rattle.crs_parse.specs.Meant as meant
use Rattle.crs_parse.proofs.numbering.differs.Given as goal

-- those so far and those of what is left
abbrev pub invariant-loop-d : goal.invariant-loop-d
invariant-loop-d l = l.out ++ map (meant.differ_of (map (λ t. t.now) l.variables)) (map (λ d. (d.0.now, d.1.now)) (drop l.d-index l.differs)) ≡ map (meant.differ_of (map (λ t. t.now) l.variables)) (map (λ d. (d.0.now, d.1.now)) l.differs)
