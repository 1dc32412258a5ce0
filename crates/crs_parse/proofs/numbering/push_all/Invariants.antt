use Rattle.std.proofs.Common.{◌≡◌, ◌++◌, drop, map}
use Rattle.crs_parse.proofs.numbering.push_all.Given as goal

-- those so far and those of what is left
abbrev pub invariant-loop-t : goal.invariant-loop-t
invariant-loop-t l = map (λ t. t.now) l.out.items ++ map (λ t. t.now) (drop l.t-index l.texts) ≡ map (λ t. t.now) l.fn.out.items ++ map (λ t. t.now) l.texts
