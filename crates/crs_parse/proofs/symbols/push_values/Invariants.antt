use Rattle.std.proofs.Common.{◌≡◌, ◌++◌, drop, map}
use Rattle.crs_parse.proofs.symbols.push_values.Given as goal

-- those so far and those of what is left
abbrev pub invariant-loop-v : goal.invariant-loop-v
invariant-loop-v l = map (λ t. t.now) l.out.items ++ map (λ t. t.now) (drop l.v-index l.values) ≡ map (λ t. t.now) l.fn.out.items ++ map (λ t. t.now) l.values
