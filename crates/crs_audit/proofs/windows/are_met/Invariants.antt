use Rattle.std.proofs.Common.{Some, map, drop}
use Rattle.std.specs.List.{AllByRecursion}
use Rattle.crs_base.specs.Seen.{entry_of}
use Rattle.crs_model.specs.SeenModels.{window_of}
use Rattle.crs_model.specs.Bindings.{look_of}
use Rattle.crs_model.specs.Verdicts.{IsMet}
use Rattle.crs_audit.specs.Runs.{entries_of}
use Rattle.crs_audit.specs.ClaimWindows.{settled_in}
use Rattle.crs_audit.proofs.windows.are_met.Given as goal

-- all are met where those that are left are
abbrev pub invariant-loop-window : goal.invariant-loop-window
invariant-loop-window l =
    AllByRecursion (IsMet (look_of l.binding) (map Some (map (λ e. entry_of e.value) l.entries)) (settled_in l.at (entries_of l.by_key)) l.at.horizon) (map window_of (drop l.window-index l.windows))
    → AllByRecursion (IsMet (look_of l.binding) (map Some (map (λ e. entry_of e.value) l.entries)) (settled_in l.at (entries_of l.by_key)) l.at.horizon) (map window_of l.windows)
