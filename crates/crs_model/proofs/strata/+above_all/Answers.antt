use Rattle.std.proofs.Common.{map, zip}
use Rattle.crs_model.specs.Plans.{chronicle}
use Rattle.crs_model.proofs.Heights.{some_more}
use Rattle.crs_model.proofs.strata.+above_all.Goals as goal

pub returns-in-Some : goal.returns-in-Some
returns-in-Some t c = rw (c.in-Some.ensures.cases.0, c.max.ensures)
    (some_more (zip (map (λ r. chronicle r.value) c.args.plans.now) c.args.strata.now) c.in-Some.name.now c.in-Some.rest.now c.above.result c.above_all.result c.above.ensures c.above_all.ensures)
