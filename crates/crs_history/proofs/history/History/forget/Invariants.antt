use Rattle.std.proofs.Common.{◌≤◌, vec_len}
use Rattle.std.specs.Prelude.{max}
use Rattle.crs_history.specs.Dropping.{Drops}
use Rattle.crs_history.specs.Holdings.{held_of, AreBefore, IsPast, weight}
use Rattle.crs_history.proofs.history.History.forget.Given as goal

-- what was dropped is past, none of the older ones is dated at or after the date, and there are few spare ones
abbrev pub invariant-loop : goal.invariant-loop
invariant-loop l =
    Drops (IsPast l.fn.self.entries l.limit) l.fn.self.entries (held_of l.self-inside.held) × AreBefore l.limit l.self-inside.held.older
    × (vec_len l.spare ≤ max (vec_len l.fn.spare) l.room)

abbrev pub decreases-loop : goal.decreases-loop
decreases-loop l = weight l.self-inside.held
