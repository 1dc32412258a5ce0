use Rattle.std.proofs.Common.{arith}
use Rattle.crs_parse.proofs.Sizes.{length_seen}
use Rattle.crs_parse.proofs.builder.Written.add_set.Goals as goal

pub returns-then-len-gt-VALUE_LIMIT : goal.returns-then-len-gt-VALUE_LIMIT
returns-then-len-gt-VALUE_LIMIT c = grind (arith, length_seen)
