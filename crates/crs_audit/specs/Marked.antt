-- A run behind a mark.
use Rattle.std.specs.Prelude.{ℕ, [], ◌∷◌, ◌++◌, length}
use Rattle.crs_audit.specs.declared.run.Run.{Run}

-- the clock stands at the mark's number, and the mark is kept behind those before it
abbrev pub marked_at : Run → ℕ → ℕ → Run
marked_at x number horizon =
    record x { last = number; horizon = horizon; marks = x.marks ++ record { number = number; horizon = horizon; accepted = length x.entries } ∷ [] }
