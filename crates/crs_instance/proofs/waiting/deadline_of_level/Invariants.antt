use Rattle.std.proofs.Common.{◌≡◌, map, true}
use Rattle.std.specs.Prelude.{◌==◌}
use Rattle.crs_stn.specs.DateWindow.{least_of}
use Rattle.crs_model.specs.Levels.{level_in}
use Rattle.crs_model.specs.SeenModels.{event_of}
use Rattle.crs_model.specs.Bits.{is_set}
use Rattle.crs_instance.specs.Spans.{end_of, windows_of}
use Rattle.crs_instance.specs.Instances.{window_at}
use Rattle.crs_instance.specs.Deadlines.{end_if}
use Rattle.crs_instance.proofs.waiting.deadline_of_level.Given as goal

abbrev pub invariant-loop-e : goal.invariant-loop-e
invariant-loop-e l = end_of l.earliest ≡ least_of (λ e. end_if (level_in (map event_of l.events) true e == l.level) (is_set l.bound e) (window_at (windows_of l.spans) e)) l.e
