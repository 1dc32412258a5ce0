use Rattle.std.proofs.Common.{map}
use Rattle.crs_model.specs.Levels.{level_in}
use Rattle.crs_model.specs.SeenModels.{event_of}
use Rattle.crs_focus.specs.Current.{IsLeastUnset}
use Rattle.crs_focus.proofs.level.least_unset.Given as goal

abbrev pub invariant-loop-place : goal.invariant-loop-place
invariant-loop-place l = IsLeastUnset (level_in (map event_of l.events) l.focus) l.bits l.place l.least
