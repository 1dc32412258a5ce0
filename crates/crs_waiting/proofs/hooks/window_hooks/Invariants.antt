use Rattle.std.proofs.Common.{take, map}
use Rattle.std.specs.List.{AllZip}
use Rattle.crs_model.specs.SeenModels.{window_of}
use Rattle.crs_waiting.specs.Hooks.{IsHookOfWindow}
use Rattle.crs_waiting.proofs.hooks.window_hooks.Given as goal

abbrev pub invariant-loop-window : goal.invariant-loop-window
invariant-loop-window l = AllZip IsHookOfWindow (take l.window-index (map window_of l.windows)) l.hooks.items
