use Rattle.std.proofs.Common.{length}
use Rattle.crs_feeds.proofs.clocks.+have_all_ended.Given as goal

abbrev pub decreases-have_all_ended : goal.decreases-have_all_ended
decreases-have_all_ended l = length l.feeds.now
