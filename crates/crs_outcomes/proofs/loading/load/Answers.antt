use Rattle.crs_outcomes.proofs.Loads.{whole_loaded, load_failed, load_wanting, load_long}
use Rattle.crs_outcomes.proofs.loading.load.Goals as goal

pub returns-in-Ok-clause-told : goal.returns-in-Ok-clause-told
returns-in-Ok-clause-told g c = λ t. whole_loaded _ _ _ _ _ _ c.in-Ok.text (c.in-Ok.ensures.told t)

pub returns-in-Err-Failed-clause-told : goal.returns-in-Err-Failed-clause-told
returns-in-Err-Failed-clause-told g c = λ t. load_failed _ _ _ c.args.refusal.now _ _ _ (rw c.in-Err-Failed.field-0-is at (c.in-Err-Failed.ensures.told t))

pub returns-in-Err-Memory-clause-told : goal.returns-in-Err-Memory-clause-told
returns-in-Err-Memory-clause-told g c = λ t. load_wanting _ _ _ c.args.refusal.now _ _ _ (rw c.in-Err-Memory.field-0-is at (c.in-Err-Memory.ensures.told t))

pub returns-in-Err-Long-clause-told : goal.returns-in-Err-Long-clause-told
returns-in-Err-Long-clause-told g c = λ t. load_long _ _ _ c.args.refusal.now _ (g.D.Desk.told c.read_whole.new.desk) _ _ _ (rw (c.in-Err-Long.field-0-is, ← c.write_text.ensures.inputs) at (c.in-Err-Long.ensures.told t)) (c.write_text.ensures.told t)
