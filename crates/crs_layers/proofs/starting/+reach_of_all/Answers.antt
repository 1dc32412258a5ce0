use Rattle.std.proofs.Common.{map}
use Rattle.crs_layers.proofs.Beginning.{longest_more}
use Rattle.crs_layers.proofs.starting.+reach_of_all.Goals as goal

pub returns-in-Some : goal.returns-in-Some
returns-in-Some t c = rw c.in-Some.ensures.cases.0
    (longest_more c.in-Some.plan.now.value.reach (map (λ p. p.reach) (map (λ r. r.value) c.in-Some.rest.now)) c.reach_of_all.result c.longer.result c.reach_of_all.ensures (rw c.deref.ensures at c.longer.ensures))
