use Rattle.std.proofs.Common.{length}
use Rattle.crs_model.proofs.strata.+push_event_names.Given as goal

abbrev pub decreases-push_event_names : goal.decreases-push_event_names
decreases-push_event_names l = length l.events.now
