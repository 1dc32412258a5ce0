use Rattle.crs_stn.specs.Table.{most_of}
use Rattle.crs_compile.proofs.Spans.{IsPairFurthest}
use Rattle.crs_compile.proofs.reach.event_reach.Given as goal

abbrev pub invariant-loop-event : goal.invariant-loop-event
invariant-loop-event l = IsPairFurthest (most_of l.network) l.event l.events l.reach
