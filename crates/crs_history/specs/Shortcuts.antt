-- What is told of steps, without a look among them.
use Rattle.std.specs.Prelude.{ℕ, [], ◌∷◌, Option}
use Rattle.crs_base.specs.declared.symbols.Sym.{Sym}
use Rattle.crs_history.specs.ListNumbers.{Steps, step_of, number_from}
use Rattle.crs_history.specs.Told.{AreTold}
use Rattle.crs_history.specs.declared.shortcuts.Shortcuts.{Shortcuts}

-- the number of a list of two symbols, the first given by its number
abbrev pub pair_of : Steps → ℕ → Sym → Option ℕ
pair_of steps n s = number_from steps 0 (record { 0 = n } ∷ s ∷ [])

-- what is told of pairs and of steps is what the steps give
abbrev pub AreRight : Steps → Shortcuts → Type 0
AreRight steps shortcuts = AreTold (pair_of steps) shortcuts.pairs × AreTold (step_of steps) shortcuts.steps
