use Rattle.std.proofs.Common.{◌≡◌, true}
use Rattle.crs_stn.specs.DateWindow.{least_of}
use Rattle.crs_model.specs.Bits.{is_set}
use Rattle.crs_instance.specs.Spans.{end_of, windows_of}
use Rattle.crs_instance.specs.Instances.{window_at}
use Rattle.crs_instance.specs.Deadlines.{end_if}
use Rattle.crs_instance.proofs.waiting.earliest_deadline.Given as goal

abbrev pub invariant-loop-e : goal.invariant-loop-e
invariant-loop-e l = end_of l.earliest ≡ least_of (λ e. end_if true (is_set l.bound e) (window_at (windows_of l.spans) e)) l.e
