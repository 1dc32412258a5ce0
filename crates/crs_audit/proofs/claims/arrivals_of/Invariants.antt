use Rattle.std.proofs.Common.{◌≡◌, ◌++◌, drop, map}
use Rattle.std.specs.Option.{option_map}
use Rattle.crs_audit.specs.Claims.{numbers_of}
use Rattle.crs_audit.proofs.claims.arrivals_of.Given as goal

-- the numbers so far, and those of the words that are left
abbrev pub invariant-loop-word : goal.invariant-loop-word
invariant-loop-word l = option_map (λ ns. l.numbers.items ++ ns) (numbers_of (map (λ w. w.now) (drop l.word-index l.words))) ≡ numbers_of (map (λ w. w.now) l.words)
