-- Which handles are fresh.
use Rattle.std.specs.Prelude.{ℕ, Bool, List, ◌&&◌, nat_lt, nat_eq, slice_index, length}
use Rattle.crs_agenda.specs.declared.timed.Timed.{Timed}
use Rattle.crs_agenda.specs.declared.timed.Handle.{Handle}

-- the place is below the count of serial numbers, and the serial number there is the handle's
abbrev pub is_fresh : List ℕ → Handle → Bool
is_fresh serials h = nat_lt h.place (length serials) && nat_eq (slice_index serials h.place) h.serial

-- the pair's handle is fresh
abbrev pub is_fresh_pair : List ℕ → Timed → Bool
is_fresh_pair serials t = is_fresh serials t.handle
