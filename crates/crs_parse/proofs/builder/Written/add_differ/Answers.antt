use Rattle.std.proofs.Common.{arith}
use Rattle.crs_parse.proofs.Sizes.{length_seen}
use Rattle.crs_parse.proofs.builder.Written.add_differ.Goals as goal

pub returns-then-len-ge-DIFFERENCE_LIMIT : goal.returns-then-len-ge-DIFFERENCE_LIMIT
returns-then-len-ge-DIFFERENCE_LIMIT c = grind (arith, length_seen)
