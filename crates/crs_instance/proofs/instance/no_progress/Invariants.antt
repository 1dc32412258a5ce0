use Rattle.std.proofs.Common.{◌≡◌}
use Rattle.std.specs.Prelude.{replicate}
use Rattle.crs_instance.specs.Instances.{no_progress}
use Rattle.crs_instance.proofs.instance.no_progress.Given as goal

abbrev pub invariant-loop-i : goal.invariant-loop-i
invariant-loop-i l = l.progress.items ≡ replicate l._i no_progress
