use Rattle.std.proofs.Common.{arith}
use Rattle.crs_parse.proofs.Sizes.{length_seen}
use Rattle.crs_parse.proofs.builder.add_attribute.Goals as goal

pub returns-then-len-ge-NAME_LIMIT : goal.returns-then-len-ge-NAME_LIMIT
returns-then-len-ge-NAME_LIMIT c = grind (arith, length_seen)
