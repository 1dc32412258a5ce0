use Rattle.std.proofs.Common.{◌≡◌, drop, map}
use Rattle.crs_audit.specs.Claims.{has_empty}
use Rattle.crs_audit.proofs.claims.has_empty.Given as goal

abbrev pub invariant-loop-word : goal.invariant-loop-word
invariant-loop-word l = has_empty (map (λ w. w.now) (drop l.word-index l.words)) ≡ has_empty (map (λ w. w.now) l.words)
