-- Entries by number: that of an entry's name and of those of its arguments that count where the name is looked up.
use Rattle.std.specs.Prelude.{◌≡◌, ◌+◌, ◌*◌, ◌/◌, ◌%◌, ◌==◌, ℕ, cond, List, [], ◌∷◌, ⊤, Option, Some, None, IfSome, slice_index_or}
use Rattle.crs_base.specs.declared.symbols.Sym.{Sym}
use Rattle.crs_base.specs.Entry.{Entry}
use Rattle.crs_base.specs.Sifted.{Sifts}
use Rattle.crs_history.specs.Lanes.{lane_of}
use Rattle.crs_history.specs.ListNumbers.{led}

-- by the number of a name the arguments that count, as bits from the least; and lists of entries by number
pub record KeyedState : Type 0 where
  pub places : List (Option ℕ)
  pub lanes : List (List (Entry Sym))

-- the arguments have the known symbols at their places
abbrev pub HaveKnown : List (Option Sym) → List Sym → Type 0
HaveKnown [] args = ⊤
HaveKnown (k ∷ ks) [] = (k ≡ None) × HaveKnown ks []
HaveKnown (k ∷ ks) (a ∷ args) = IfSome k (λ s. s ≡ a) × HaveKnown ks args

-- the entry has the name, and the known symbols
pub record IsLike (name : Sym) (known : List (Option Sym)) (e : Entry Sym) : Type 0 where
  pub named : e.name ≡ name
  pub has : HaveKnown known e.args

-- a number with one more symbol
abbrev pub mixed : ℕ → ℕ → ℕ
mixed n s = (n * 31 + s) % 1024

-- a number with the symbols that count
abbrev pub digest : ℕ → ℕ → List Sym → ℕ
digest places n [] = n
digest places n (s ∷ ss) = digest (places / 2) (cond (places % 2 == 1) (mixed n s.0) n) ss

-- a number with the symbol, where that counts
abbrev pub taken_in : ℕ → ℕ → Option Sym → Option ℕ
taken_in places n None = cond (places % 2 == 1) None (Some n)
taken_in places n (Some s) = Some (cond (places % 2 == 1) (mixed n s.0) n)

-- a number with the known symbols that count, where all that count are known
abbrev pub digest_of : ℕ → ℕ → List (Option Sym) → Option ℕ
digest_of places n [] = cond (places == 0) (Some n) None
digest_of places n (k ∷ ks) = led (taken_in places n k) (λ m. digest_of (places / 2) m ks)

-- the number of an entry, where its name is looked up
abbrev pub key_of : List (Option ℕ) → Entry Sym → Option ℕ
key_of places e = led (slice_index_or places e.name.0 None) (λ p. Some (digest p (e.name.0 % 1024) e.args))

-- the number of each entry of the name with the known symbols, where these tell it
abbrev pub key_for : List (Option ℕ) → Sym → List (Option Sym) → Option ℕ
key_for places name known = led (slice_index_or places name.0 None) (λ p. digest_of p (name.0 % 1024) known)

-- each number's list has the entries of that number, in their order
abbrev pub AreKeyed : List (Entry Sym) → KeyedState → Type 0
AreKeyed ring k = (n : ℕ) → Sifts (λ e. key_of k.places e ≡ Some n) ring (lane_of k.lanes n)
