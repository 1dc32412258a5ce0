use Rattle.std.proofs.Common.{◌∙◌, sym}
use Rattle.crs_outcomes.proofs.Loads.{whole_failed, whole_wanting, whole_read}
use Rattle.crs_outcomes.proofs.loading.read_whole.Goals as goal

pub returns-in-Err-Failed-clause-told : goal.returns-in-Err-Failed-clause-told
returns-in-Err-Failed-clause-told g c = λ t. whole_failed _ _ _ _ _ _ c.in-Err-Failed.ensures.err (rw c.in-Err-Failed.field-0-is at (c.in-Err-Failed.ensures.told t))

pub returns-in-Err-Memory-clause-told : goal.returns-in-Err-Memory-clause-told
returns-in-Err-Memory-clause-told g c = λ t. whole_wanting _ _ _ _ _ _ c.in-Err-Memory.ensures.err (rw c.in-Err-Memory.field-0-is at (c.in-Err-Memory.ensures.told t))

pub returns-in-Ok-clause-told : goal.returns-in-Ok-clause-told
returns-in-Ok-clause-told g c = λ t.
    whole_read _ _ _ _ (g.D.Desk.told c.open.new.self) _ _ _ c.in-Ok.ensures.number (sym (g.met.D.Desk.places c.args.desk.now t)) (c.read_all.ensures.inputs ∙ c.in-Ok.ensures.ok) (c.in-Ok.ensures.told t) _
    (c.read_all.ensures.told t)
