-- Which events are bound, as the bits of a number.
use Rattle.std.specs.Prelude.{◌≡◌, ◌/◌, ◌%◌, ◌^◌, ◌==◌, Bool, ℕ, Option, is_some, cond}
use Rattle.crs_base.specs.declared.symbols.Sym.{Sym}
use Rattle.crs_base.specs.Entry.{Entry}
use Rattle.crs_model.specs.Partial.{Partial, at}

-- the bit of this number, from the least, is set
abbrev pub is_set : ℕ → ℕ → Bool
is_set n e = n / 2 ^ e % 2 == 1

abbrev pub bit_of : Option (Entry Sym) → ℕ
bit_of o = cond (is_some o) 1 0

-- bit e of n is set exactly where event e is bound
abbrev pub HasBits : Partial Sym → ℕ → Type 0
HasBits a n = (e : ℕ) → n / 2 ^ e % 2 ≡ bit_of (at a e)
