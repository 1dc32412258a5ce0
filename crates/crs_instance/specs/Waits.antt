-- Whether the other events of an event's level can still come where the event has a date.
use Rattle.std.specs.Prelude.{◌≡◌, ◌≢◌, ◌<◌, ℕ, pos, length, Some, None, false}
use Rattle.crs_base.specs.declared.symbols.Sym.{Sym}
use Rattle.crs_base.specs.Entry.{Entry}
use Rattle.crs_stn.specs.DateWindow.{given_also, CanBeFrom}
use Rattle.crs_model.specs.declared.plan.Plan.{Plan}
use Rattle.crs_model.specs.Partial.{Partial, at, put, dates_of, IsAwaited, CanGoOn}
use Rattle.crs_model.specs.Plans.{chronicle}
use Rattle.crs_model.specs.Bits.{is_set}

-- g is another unbound event of the level of e
pub record IsOther (level : ℕ → ℕ) (a : Partial Sym) (e g : ℕ) : Type 0 where
  pub apart : g ≢ e
  pub within : g < length a
  pub unbound : at a g ≡ None
  pub same_level : level g ≡ level e

-- the same, where the bits of a number tell which events are bound
pub record IsOtherUnset (level : ℕ → ℕ) (count bound e g : ℕ) : Type 0 where
  pub apart : g ≢ e
  pub within : g < count
  pub unset : is_set bound g ≡ false
  pub same_level : level g ≡ level e

-- where e has the date d, each other unbound event of its level can be at h or after
abbrev pub OthersCanCome : Plan → (ℕ → ℕ) → Partial Sym → ℕ → ℕ → ℕ → Type 0
OthersCanCome plan level a e d h = (g : ℕ) → IsOther level a e g → CanBeFrom plan.chronicle.bounds (given_also (dates_of a) e (pos d)) g (pos h)

-- Another unbound event g of the level of e is too late where e has the date d: nothing that binds e to an entry of that date, and what a binds, can go on at h while g is awaited.
abbrev pub AnotherIsLate : Plan → (ℕ → ℕ) → Partial Sym → ℕ → ℕ → ℕ → Type 0
AnotherIsLate plan level a e d h =
    (g : ℕ) × IsOther level a e g
    × ((x : Entry Sym) (b : Partial Sym) → x.date ≡ d → ((f : ℕ) (y : Entry Sym) → at (put a e x) f ≡ Some y → at b f ≡ Some y) → IsAwaited level b g → CanGoOn (chronicle plan) level b h → ⊥)
