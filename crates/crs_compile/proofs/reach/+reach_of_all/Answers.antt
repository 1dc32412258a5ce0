use Rattle.std.proofs.Common.{map}
use Rattle.crs_compile.specs.Compiled.{plans_in}
use Rattle.crs_compile.proofs.Spans.{all_more}
use Rattle.crs_compile.proofs.reach.+reach_of_all.Goals as goal

pub returns-in-Some : goal.returns-in-Some
returns-in-Some t c = rw c.in-Some.ensures.cases.0
    (all_more c.in-Some.plan.now.value.reach (map (λ p. p.reach) (plans_in c.in-Some.rest.now)) c.reach_of_all.result c.longer.result c.reach_of_all.ensures (rw c.deref.ensures at c.longer.ensures))
