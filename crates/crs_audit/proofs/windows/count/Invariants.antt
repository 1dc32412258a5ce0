use Rattle.std.proofs.Common.{ℕ, ◌+◌, ◌≤◌, map, drop}
use Rattle.crs_base.specs.Seen.{entry_of}
use Rattle.crs_model.specs.Bindings.{look_of}
use Rattle.crs_model.specs.SeenModels.{pattern_of}
use Rattle.crs_audit.specs.Counted.{AreCounted}
use Rattle.crs_audit.proofs.windows.count.Given as goal

-- the count so far, and whatever is that of the entries that are left
abbrev pub invariant-loop-entry : goal.invariant-loop-entry
invariant-loop-entry l = record {
  told : (m : ℕ) → AreCounted (look_of l.binding) (pattern_of l.pattern) l.accepted (map (λ e. entry_of e.value) (drop l.entry-index l.entries)) m
      → AreCounted (look_of l.binding) (pattern_of l.pattern) l.accepted (map (λ e. entry_of e.value) l.entries) (l.n + m);
  few : l.n ≤ l.entry-index;
}
