use Rattle.crs_outcomes.proofs.Loads.{whole_loaded}
use Rattle.crs_commands.proofs.CheckedLoads.{checked_failed, checked_wanting, checked_long}
use Rattle.crs_commands.proofs.auditing.load_checked.Goals as goal

pub returns-in-Ok-clause-told : goal.returns-in-Ok-clause-told
returns-in-Ok-clause-told g c = λ t. whole_loaded _ _ _ _ _ _ c.in-Ok.bytes (c.in-Ok.ensures.told t)

pub returns-in-Err-Failed-clause-told : goal.returns-in-Err-Failed-clause-told
returns-in-Err-Failed-clause-told g c = λ t. checked_failed _ _ _ _ _ (rw c.in-Err-Failed.field-0-is at (c.in-Err-Failed.ensures.told t))

pub returns-in-Err-Memory-clause-told : goal.returns-in-Err-Memory-clause-told
returns-in-Err-Memory-clause-told g c = λ t. checked_wanting _ _ _ _ _ (rw c.in-Err-Memory.field-0-is at (c.in-Err-Memory.ensures.told t))

pub returns-in-Err-Long-clause-told : goal.returns-in-Err-Long-clause-told
returns-in-Err-Long-clause-told g c = λ t. checked_long _ _ _ _ _ (rw c.in-Err-Long.field-0-is at (c.in-Err-Long.ensures.told t))
