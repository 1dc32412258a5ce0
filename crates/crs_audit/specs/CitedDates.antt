-- Entries in the order of their dates, and those of a stretch of dates.
use Rattle.std.specs.Prelude.{◌≤◌, ℕ, ℤ, pos, negsuc, nat_lt, nat_le, Bool, List, filter}
use Rattle.crs_base.specs.declared.symbols.Sym.{Sym}
use Rattle.crs_base.specs.Words.{Ordered}
use Rattle.crs_base.specs.Entry.{Entry}

abbrev pub IsByDate : List (Entry Sym) → Type 0
IsByDate es = Ordered (λ d e. d.date ≤ e.date) es

-- the least date of an entry that is at or after t
abbrev pub nat_of : ℤ → ℕ
nat_of (pos n) = n
nat_of (negsuc n) = 0

abbrev pub is_before : ℕ → Entry Sym → Bool
is_before date e = nat_lt e.date date

abbrev pub is_since : ℕ → Entry Sym → Bool
is_since date e = nat_le date e.date

-- the entries of the stretch, whose end isn't in it
abbrev pub dated_in : ℤ → ℤ → List (Entry Sym) → List (Entry Sym)
dated_in from to es = filter (is_since (nat_of from)) (filter (is_before (nat_of to)) es)
