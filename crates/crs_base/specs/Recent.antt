-- What a table of the texts met last tells of a table of symbols.
use Rattle.std.specs.Prelude.{◌≡◌, ℕ, ◌<◌, ◌≤◌, List, length, get_or, position, bytes_eq, Some}
use Rattle.std.specs.List.{All}
use Rattle.crs_base.specs.declared.recent.Tag.{Tag}
use Rattle.crs_base.specs.declared.recent.Place.{Place}
use Rattle.crs_base.specs.declared.recent.Pair.{Pair}
use Rattle.crs_base.specs.declared.recent.Recent.{Recent}
use Rattle.crs_base.specs.Tags.{tag_on}

-- each is below 2^8
abbrev pub AreBytes : List ℕ → Type 0
AreBytes text = (i : ℕ) → get_or text i 0 < 256

-- the tag has the text's length, and its bytes as one number; the text isn't empty
abbrev pub IsTagOf : List ℕ → Tag → Type 0
IsTagOf text tag = (1 ≤ length text) × (length text ≡ tag.len) × (tag_on 0 text ≡ tag.bits)

-- a text that has the place's tag has its number
abbrev pub Tells : List (List ℕ) → Place → Type 0
Tells texts place = (text : List ℕ) → AreBytes text → IsTagOf text place.tag → position (bytes_eq text) texts ≡ Some place.number

-- so do both places of a pair
abbrev pub TellBoth : List (List ℕ) → Pair → Type 0
TellBoth texts pair = Tells texts pair.lower × Tells texts pair.other

-- so do all places of the table
abbrev pub AreTold : List (List ℕ) → Recent → Type 0
AreTold texts recent = All (TellBoth texts) recent.pairs.items
