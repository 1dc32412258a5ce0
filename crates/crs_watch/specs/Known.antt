-- Which symbols terms tell of the entries that they equal.
use Rattle.std.specs.Prelude.{◌≡◌, ℕ, List, get_or, Option, Some, None, IsSomeAnd, slice_get}
use Rattle.crs_base.specs.declared.symbols.Sym.{Sym}
use Rattle.crs_model.specs.Bindings.{Looser}
use Rattle.crs_model.specs.Matching.{Binding, TermIs}
use Rattle.crs_model.specs.Models.{Term}

-- under each binding that has what this one has, the term equals this symbol alone
abbrev pub Tells : Binding Sym → Term Sym → Sym → Type 0
Tells look term s = (more : Binding Sym) (a : Sym) → Looser look more → TermIs more term a → s ≡ a

-- each known symbol is told by the term at its place
abbrev pub AreTold : Binding Sym → List (Term Sym) → List (Option Sym) → Type 0
AreTold look terms known = (k : ℕ) (s : Sym) → get_or known k None ≡ Some s → IsSomeAnd (slice_get terms k) (λ t. Tells look t s)
