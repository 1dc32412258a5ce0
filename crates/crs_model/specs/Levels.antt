-- The levels of events.
use Rattle.std.specs.Prelude.{ℕ, Bool, not, ◌&&◌, List, map, slice_index_or, if◌then◌else◌}
use Rattle.crs_model.specs.Models.{EventDef, Chronicle}

-- the level of each event, which is 0 where levels aren't read
abbrev pub level_in : {S : Type 0} → List (EventDef S) → Bool → ℕ → ℕ
level_in events focus e = if focus then slice_index_or (map (λ v. v.level) events) e 0 else 0

-- whether the levels of a chronicle are read, which is never so of a prompt one
abbrev pub reads_levels : {S : Type 0} → Chronicle S → Bool → Bool
reads_levels c focus = focus && not c.prompt
