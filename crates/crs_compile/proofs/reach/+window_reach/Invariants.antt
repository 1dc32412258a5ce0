use Rattle.std.proofs.Common.{length}
use Rattle.crs_compile.proofs.reach.+window_reach.Given as goal

abbrev pub decreases-window_reach : goal.decreases-window_reach
decreases-window_reach l = length l.windows.now
