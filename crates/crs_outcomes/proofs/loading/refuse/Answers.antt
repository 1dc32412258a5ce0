use Rattle.crs_outcomes.proofs.loading.refuse.Goals as goal

pub returns-clause-told : goal.returns-clause-told
returns-clause-told g c = λ t. rw c.in-At.is (rw (c.bytes.ensures, c.in-Ok.ensures) at (c.write_text.ensures.told t))
