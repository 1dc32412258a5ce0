use Rattle.std.proofs.Common.{◌≡◌, ◌<◌, ◌≤◌, ℕ}
use Rattle.crs_waiting.specs.Links.{hook_at}
use Rattle.crs_waiting.proofs.hooks.first_from.Given as goal

abbrev pub invariant-loop-event : goal.invariant-loop-event
invariant-loop-event l = (k : ℕ) → l.from ≤ k → k < l.event → (hook_at l.hooks k).name.0 ≡ l.number → ⊥
