use Rattle.crs_stn.specs.Table.{most_of}
use Rattle.crs_model.specs.SeenModels.{anchor_of}
use Rattle.crs_compile.proofs.Spans.{IsFurthest}
use Rattle.crs_compile.proofs.reach.furthest.Given as goal

abbrev pub invariant-loop-event : goal.invariant-loop-event
invariant-loop-event l = IsFurthest (most_of l.network) (anchor_of l.from) l.event l.reach
