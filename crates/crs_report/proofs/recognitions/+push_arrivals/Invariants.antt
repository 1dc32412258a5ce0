use Rattle.std.proofs.Common.{length}
use Rattle.crs_report.proofs.recognitions.+push_arrivals.Given as goal

abbrev pub decreases-push_arrivals : goal.decreases-push_arrivals
decreases-push_arrivals l = length l.entries.now
