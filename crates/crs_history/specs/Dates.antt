-- Dates of entries, and lists of entries in their order.
use Rattle.std.specs.Prelude.{◌≤◌, ℕ, ℤ, pos, negsuc, List}
use Rattle.crs_base.specs.declared.symbols.Sym.{Sym}
use Rattle.crs_base.specs.Words.{Ordered}
use Rattle.crs_base.specs.Entry.{Entry}

abbrev pub IsByDate : List (Entry Sym) → Type 0
IsByDate es = Ordered (λ d e. d.date ≤ e.date) es

-- the least date of an entry that is at or after t
abbrev pub nat_of : ℤ → ℕ
nat_of (pos n) = n
nat_of (negsuc n) = 0
