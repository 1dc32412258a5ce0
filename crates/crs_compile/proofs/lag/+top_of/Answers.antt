use Rattle.crs_compile.proofs.Slow.{top_more}
use Rattle.crs_compile.proofs.lag.+top_of.Goals as goal

pub returns-in-Some : goal.returns-in-Some
returns-in-Some t c = rw (c.in-Some.ensures.cases.0, c.max.ensures) (top_more c.in-Some.stratum.now c.in-Some.rest.now c.top_of.result c.top_of.ensures)
