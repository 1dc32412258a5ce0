use Rattle.std.proofs.Common.{map, rules}
use Rattle.crs_base.proofs.symbols.Symbols.seeded.Goals as goal

pub invariant_of-result : goal.invariant_of-result
invariant_of-result c = (search rules, search rules, c.new-2.ensures (map (λ t. t.bytes.items) c.with_hasher.result.keys))
