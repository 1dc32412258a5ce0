use Rattle.std.proofs.Common.{arith, ap, length}
use Rattle.std.proofs.lemmas.List.{length-map}
use Rattle.crs_model.specs.Plans.{chronicle}
use Rattle.crs_model.specs.SeenModels.{event_of}
use Rattle.crs_waiting.specs.Charts.{ChartState}
use Rattle.crs_waiting.specs.Hooks.{IsHookOfEvent}
use Rattle.crs_waiting.proofs.Hooking.{zip_long}
use Rattle.crs_waiting.proofs.chart.Chart.event_hook.Goals as goal

pub bounds-as_slice-event : goal.bounds-as_slice-event
bounds-as_slice-event c =
    let view = ap (λ (s : ChartState). length s.plan.chronicle.events) c.self.view_is in
    let long = zip_long IsHookOfEvent (chronicle c.self.inside.plan.now).events c.self.inside.hooks.now.events.items c.self.invariant.hooks.of_events in
    let same = length-map c.self.inside.plan.now.chronicle.events event_of in
    let within = c.requires in
    let slice = ap length c.as_slice.ensures.value in omega arith
