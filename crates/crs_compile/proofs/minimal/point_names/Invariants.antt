use Rattle.std.proofs.Common.{◌≡◌, ◌++◌, map, drop}
use Rattle.crs_model.specs.SeenModels.{event_of}
use Rattle.crs_compile.proofs.minimal.point_names.Given as goal

abbrev pub invariant-loop-event : goal.invariant-loop-event
invariant-loop-event l = l.names.items ++ map (λ v. v.point) (map event_of (drop l.event-index l.event-items)) ≡ map (λ v. v.point) (map event_of l.chronicle.events)
