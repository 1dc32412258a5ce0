use Rattle.std.proofs.Common.{ℕ, ◌+◌, ◌≤◌, ◌<◌, ◌^◌, length}
use Rattle.crs_model.specs.Bindings.{look_of}
use Rattle.crs_model.specs.Matching.{PatternIs}
use Rattle.crs_model.specs.SeenModels.{pattern_of}
use Rattle.crs_model.specs.Verdicts.{Count}
use Rattle.crs_watch.proofs.beginning.count_of.Given as goal

-- what is counted of the rest, and what was counted, is the count of all
abbrev pub invariant-loop-e : goal.invariant-loop-e
invariant-loop-e l =
    (goal.iterator-loop-e).can_next l.e-iterator × (goal.iterator-loop-e).is_finite l.e-iterator
    × (length l.fn.found < 2 ^ 32 → (n : ℕ) → Count (PatternIs (look_of l.binding) (pattern_of l.pattern)) l.e-iterator n → Count (PatternIs (look_of l.binding) (pattern_of l.pattern)) l.fn.found (l.count + n))
    × (l.count + length l.e-iterator ≤ length l.fn.found)
