-- How an instance is stored: linked entries, and the bits of the bound events.
use Rattle.std.specs.Prelude.{◌≡◌, ◌<◌, ◌≤◌, ◌^◌, ℕ, ℤ, List, length, Option, true}
use Rattle.crs_stn.specs.DateWindow.{least_of}
use Rattle.crs_model.specs.Bits.{HasBits, is_set}
use Rattle.crs_model.specs.declared.date_window.DateWindow.{DateWindow}
use Rattle.crs_instance.specs.declared.links.Links.{Links}
use Rattle.crs_instance.specs.EntryLinks.{partial_of, AreLinked, AreEarly}
use Rattle.crs_instance.specs.Deadlines.{end_if}
use Rattle.crs_instance.specs.Instances.{window_at}

-- the least of the greatest dates of the events whose bits are unset
abbrev pub last_of : ℕ → ℕ → List DateWindow → Option ℤ
last_of bound count ws = least_of (λ e. end_if true (is_set bound e) (window_at ws e)) count

-- the links are sound, `bound` has exactly the bits of their events, and `last` is the deadline of all events that they leave unbound
pub record IsStored (count bound : ℕ) (links : Links) (ws : List DateWindow) (last : Option ℤ) : Type 0 where
  pub few : count ≤ 16
  pub windowed : count ≤ length ws
  pub linked : AreLinked count links
  pub early : AreEarly links
  pub bits : HasBits (partial_of count links) bound
  pub small : bound < 2 ^ count
  pub deadline : last ≡ last_of bound count ws
