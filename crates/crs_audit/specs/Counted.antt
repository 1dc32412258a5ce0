-- Which entries count for a window.
use Rattle.std.specs.Prelude.{◌<◌, ℕ, List}
use Rattle.crs_base.specs.Entry.{Entry}
use Rattle.crs_base.specs.declared.symbols.Sym.{Sym}
use Rattle.crs_model.specs.Models.{Pattern}
use Rattle.crs_model.specs.Matching.{Binding, PatternIs}
use Rattle.crs_model.specs.Verdicts.{Count}

-- one of the first entries of the log, which equals the pattern
abbrev pub IsCounted : Binding Sym → Pattern Sym → ℕ → Entry Sym → Type 0
IsCounted look p accepted e = (e.arrival < accepted) × PatternIs look p e

-- so many of the entries are
abbrev pub AreCounted : Binding Sym → Pattern Sym → ℕ → List (Entry Sym) → ℕ → Type 0
AreCounted look p accepted entries n = Count (IsCounted look p accepted) entries n
