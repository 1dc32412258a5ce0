-- Symbols of variables, as a binding keeps them.
use Rattle.std.specs.Prelude.{ℕ, zero, suc, List, [], ◌∷◌, Option, Some, None, ◌/◌, ◌%◌, ◌==◌, cond}
use Rattle.crs_base.specs.declared.symbols.Sym.{Sym}

-- the symbols of the first n variables, where their bits are set
abbrev pub held : ℕ → List Sym → ℕ → List (Option Sym)
held zero symbols bound = []
held (suc n) [] bound = []
held (suc n) (s ∷ symbols) bound = cond (bound % 2 == 1) (Some s) None ∷ held n symbols (bound / 2)
