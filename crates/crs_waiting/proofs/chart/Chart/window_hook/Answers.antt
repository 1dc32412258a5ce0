use Rattle.std.proofs.Common.{arith, ap, length}
use Rattle.std.proofs.lemmas.List.{length-map}
use Rattle.crs_model.specs.Plans.{chronicle}
use Rattle.crs_model.specs.SeenModels.{window_of}
use Rattle.crs_waiting.specs.Charts.{ChartState}
use Rattle.crs_waiting.specs.Hooks.{IsHookOfWindow}
use Rattle.crs_waiting.proofs.Hooking.{zip_long}
use Rattle.crs_waiting.proofs.chart.Chart.window_hook.Goals as goal

pub bounds-as_slice-k : goal.bounds-as_slice-k
bounds-as_slice-k c =
    let view = ap (λ (s : ChartState). length s.plan.chronicle.windows) c.self.view_is in
    let long = zip_long IsHookOfWindow (chronicle c.self.inside.plan.now).windows c.self.inside.hooks.now.windows.items c.self.invariant.hooks.of_windows in
    let same = length-map c.self.inside.plan.now.chronicle.windows window_of in
    let within = c.requires in
    let slice = ap length c.as_slice.ensures.value in omega arith
