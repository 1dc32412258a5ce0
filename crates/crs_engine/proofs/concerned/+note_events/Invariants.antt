use Rattle.std.proofs.Common.{length}
use Rattle.crs_engine.proofs.concerned.+note_events.Given as goal

abbrev pub decreases-note_events : goal.decreases-note_events
decreases-note_events l = length l.events.now
