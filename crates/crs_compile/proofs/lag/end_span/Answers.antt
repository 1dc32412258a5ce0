use Rattle.std.proofs.Common.{rules}
use Rattle.crs_compile.proofs.lag.end_span.Goals as goal

pub returns-clause-value : goal.returns-clause-value
returns-clause-value c = rw (← c.in_ok-most.ensures.most) (search rules)
