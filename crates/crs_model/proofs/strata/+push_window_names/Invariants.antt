use Rattle.std.proofs.Common.{length}
use Rattle.crs_model.proofs.strata.+push_window_names.Given as goal

abbrev pub decreases-push_window_names : goal.decreases-push_window_names
decreases-push_window_names l = length l.windows.now
