use Rattle.std.proofs.Common.{arith}
use Rattle.crs_parse.proofs.Sizes.{length_seen}
use Rattle.crs_parse.proofs.builder.Written.add_point.Goals as goal

pub returns-then-len-ge-POINT_LIMIT : goal.returns-then-len-ge-POINT_LIMIT
returns-then-len-ge-POINT_LIMIT c = grind (arith, length_seen)
