-- The entries that a claim cites.
use Rattle.std.specs.Prelude.{◌≡◌, ◌≢◌, ◌<◌, ◌++◌, ℕ, Bool, true, false, List, length, Option, Some, None, slice_get}
use Rattle.std.specs.List.{AllZip}
use Rattle.crs_base.specs.Words.{Ordered}
use Rattle.crs_base.specs.Entry.{Entry}
use Rattle.crs_base.specs.declared.symbols.Sym.{Sym}
use Rattle.crs_audit.specs.declared.run.Stand.{Stand}

-- no number stands twice
abbrev pub AreApart : List ℕ → Type 0
AreApart numbers = Ordered (λ m n. m ≢ n) numbers

-- the entry that stands at the number's place among all of a log, was accepted by the mark, and is settled there where only settled ones count
pub record IsAvailable (all : List (Entry Sym)) (at : Stand) (prompt : Bool) (n : ℕ) (e : Entry Sym) : Type 0 where
  pub accepted : n < at.accepted
  pub placed : slice_get all n ≡ Some e
  pub settled : prompt ≡ false → e.date < at.horizon

-- so the numbers' entries are, one for each event and none twice
pub record AreCitedIn (all : List (Entry Sym)) (at : Stand) (prompt : Bool) (events : ℕ) (numbers : List ℕ) (entries : List (Entry Sym)) : Type 0 where
  pub each : length numbers ≡ events
  pub apart : AreApart numbers
  pub given : AllZip (IsAvailable all at prompt) numbers entries

-- these entries, or none are so
abbrev pub IsCitedBy : List (Entry Sym) → Stand → Bool → ℕ → List ℕ → Option (List (Entry Sym)) → Type 0
IsCitedBy all at prompt events numbers None = (entries : List (Entry Sym)) → AreCitedIn all at prompt events numbers entries → ⊥
IsCitedBy all at prompt events numbers (Some entries) = AreCitedIn all at prompt events numbers entries

-- the numbers' entries stand behind the others, or some number has none
abbrev pub ArePushed : List (Entry Sym) → Stand → Bool → List ℕ → List (Entry Sym) → List (Entry Sym) → Bool → Type 0
ArePushed all at prompt numbers old new true = (entries : List (Entry Sym)) × AllZip (IsAvailable all at prompt) numbers entries × (new ≡ old ++ entries)
ArePushed all at prompt numbers old new false = (entries : List (Entry Sym)) → AllZip (IsAvailable all at prompt) numbers entries → ⊥

-- an entry that is so, or none is
abbrev pub IsFoundAt : List (Entry Sym) → Stand → Bool → ℕ → Option (Entry Sym) → Type 0
IsFoundAt all at prompt n None = (e : Entry Sym) → IsAvailable all at prompt n e → ⊥
IsFoundAt all at prompt n (Some e) = IsAvailable all at prompt n e
