-- What an instance and an entry tell of the variables of an event's pattern.
use Rattle.std.specs.Prelude.{◌≡◌, ℕ, List, length, replicate, Option, Some, None, IfSome, slice_get}
use Rattle.crs_base.specs.declared.symbols.Sym.{Sym}
use Rattle.crs_base.specs.Entry.{Entry}
use Rattle.crs_instance.specs.Instances.{IsBoundBy}
use Rattle.crs_model.specs.declared.plan.Plan.{Plan}
use Rattle.crs_model.specs.Matching.{Binding}
use Rattle.crs_model.specs.Plans.{chronicle}

-- where both are there, they are the same
abbrev pub AreSame : Option Sym → Option Sym → Type 0
AreSame a b = (x y : Sym) → a ≡ Some x → b ≡ Some y → x ≡ y

-- no variable has one symbol in the one and another in the other
abbrev pub Agree : Binding Sym → Binding Sym → Type 0
Agree one other = (v : ℕ) → AreSame (one v) (other v)

-- the least symbols by which the event's pattern equals the entry, where they are allowed; None where none are
abbrev pub IsTaken : Plan → ℕ → Entry Sym → Option (List (Option Sym)) → Type 0
IsTaken plan e x o = IfSome (slice_get (chronicle plan).events e) (λ v. IsBoundBy (chronicle plan) v.pattern (replicate (length plan.chronicle.variables) None) x o)
