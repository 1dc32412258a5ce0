use Rattle.std.proofs.Common.{length}
use Rattle.crs_audit.proofs.citing.+push_cited.Given as goal

abbrev pub decreases-push_cited : goal.decreases-push_cited
decreases-push_cited l = length l.numbers.now
