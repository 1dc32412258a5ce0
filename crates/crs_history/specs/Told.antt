-- What a table tells of the numbers that a function gives.
use Rattle.std.specs.Prelude.{◌≡◌, ℕ, Option, Some}
use Rattle.std.specs.List.{All}
use Rattle.crs_base.specs.declared.symbols.Sym.{Sym}
use Rattle.crs_history.specs.declared.told.Place.{Place}
use Rattle.crs_history.specs.declared.told.ToldNumbers.{ToldNumbers}

-- unless it is 0, the place's number is what the function gives
abbrev pub Tells : (ℕ → Sym → Option ℕ) → Place → Type 0
Tells f place = (place.number ≡ 0 → ⊥) → f place.from place.symbol ≡ Some place.number

-- so is that of each place of the table
abbrev pub AreTold : (ℕ → Sym → Option ℕ) → ToldNumbers → Type 0
AreTold f told = All (Tells f) told.places.items
