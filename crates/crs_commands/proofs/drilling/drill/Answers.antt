use Rattle.std.proofs.Common.{inl}
use Rattle.crs_outcomes.specs.Most.{most_of}
use Rattle.crs_commands.proofs.Drilled.{drill_refused}
use Rattle.crs_commands.proofs.drilling.drill.Goals as goal

pub returns-in-Ok-clause-told : goal.returns-in-Ok-clause-told
returns-in-Ok-clause-told g c = λ t.
    let p = rw c.drill_models.ensures at c.in-Ok.ensures.ok in
    inl (p.frame, p.accepted, rw p.focus_is at (c.sum_up.ensures.told t p.frame p.represents))

pub returns-in-Err-clause-told : goal.returns-in-Err-clause-told
returns-in-Err-clause-told g c = λ t.
    drill_refused c.args.focus (most_of c.args.limits) c.args.seed c.args.lines _ _ c.in-Err.refused _
    (rw c.drill_models.ensures at c.in-Err.ensures.refused) (c.refuse.ensures.told t)
