use Rattle.std.proofs.Common.{arith}
use Rattle.crs_parse.proofs.Sizes.{length_seen}
use Rattle.crs_parse.proofs.builder.Written.add_bound.Goals as goal

pub returns-then-len-ge-DISTANCE_LIMIT : goal.returns-then-len-ge-DISTANCE_LIMIT
returns-then-len-ge-DISTANCE_LIMIT c = grind (arith, length_seen)
