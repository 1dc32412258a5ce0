use Rattle.std.proofs.Common.{length}
use Rattle.crs_engine.proofs.concerned.+note_windows.Given as goal

abbrev pub decreases-note_windows : goal.decreases-note_windows
decreases-note_windows l = length l.windows.now
