use Rattle.std.proofs.Common.{ℕ, Option}
use Rattle.crs_base.specs.declared.symbols.Sym.{Sym}
use Rattle.crs_history.specs.Told.{AreTold}
use Rattle.crs_history.proofs.told.ToldNumbers.wider.Given as goal

-- what the narrow table tells, the wider one tells rightly so far
abbrev pub invariant-loop-place : goal.invariant-loop-place
invariant-loop-place l = (f : ℕ → Sym → Option ℕ) → AreTold f l.self → AreTold f l.wider
