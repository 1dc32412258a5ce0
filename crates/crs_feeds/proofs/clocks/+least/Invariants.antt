use Rattle.std.proofs.Common.{length}
use Rattle.crs_feeds.proofs.clocks.+least.Given as goal

abbrev pub decreases-least : goal.decreases-least
decreases-least l = length l.feeds.now
