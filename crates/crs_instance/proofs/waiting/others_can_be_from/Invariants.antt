use Rattle.std.specs.Prelude.{ℕ, ◌<◌, length}
use Rattle.crs_stn.specs.Table.{most_of}
use Rattle.crs_model.specs.Levels.{level_in}
use Rattle.crs_model.specs.Plans.{chronicle}
use Rattle.crs_instance.specs.Spans.{windows_of}
use Rattle.crs_instance.specs.Instances.{window_at}
use Rattle.crs_instance.specs.Narrowed.{most_with, IsFrom}
use Rattle.crs_instance.specs.Waits.{IsOtherUnset}
use Rattle.crs_instance.proofs.waiting.others_can_be_from.Given as goal

abbrev pub invariant-loop-g : goal.invariant-loop-g
invariant-loop-g l = (g : ℕ) → g < l.g → IsOtherUnset (level_in (chronicle l.plan).events l.focus) (length l.plan.chronicle.events) l.bound l.event g → IsFrom (most_with (window_at (windows_of l.spans) g) (most_of l.plan.network l.event g) l.date) l.h
