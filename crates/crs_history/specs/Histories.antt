-- Histories, and for which entries they stand.
use Rattle.std.specs.Prelude.{◌≡◌, ◌⊎◌, ℕ, ◌^◌, ℤ, pos, neg_ℤ, ◌≤ℤ◌, ◌-ℤ◌, List, [], ◌∷◌, ◌++◌, map, Option, IsSomeAnd}
use Rattle.std.specs.List.{AllByRecursion}
use Rattle.std.specs.declared.cmp.Ordering.TheVariants.{Less}
use Rattle.std.specs.declared.rc.Rc.{Rc}
use Rattle.std.proofs.Common.{Global}
use Rattle.crs_base.specs.declared.symbols.Sym.{Sym}
use Rattle.crs_base.specs.declared.entry.Entry.{Entry as CodeEntry}
use Rattle.crs_base.specs.Sifted.{Sifts}
use Rattle.crs_base.specs.Entry.{Entry, entry_cmp}
use Rattle.crs_base.specs.Seen.{entry_of}
use Rattle.crs_base.specs.Values.{Attribute, IsLastChange}

-- a history, as contracts see it
pub record HistoryState : Type 0 where
  pub entries : List (Entry Sym)
  pub floor : ℤ

-- the floor of a new history, before all entries and all starts of windows
abbrev pub lowest : ℤ
lowest = neg_ℤ (pos (2 ^ 45))

-- nothing was forgotten yet, or the floor isn't after g less the reach
abbrev pub IsFarBack : Option ℤ → ℕ → ℤ → Type 0
IsFarBack reach g floor = (floor ≡ lowest) ⊎ IsSomeAnd reach (λ r. floor ≤ℤ (pos g -ℤ r))

abbrev pub Shared : Type 0
Shared = Rc CodeEntry Global

abbrev pub entries_of : List Shared → List (Entry Sym)
entries_of items = map (λ r. entry_of r.value) items

module _ {S : Type 0} where
  -- the entry's key is after theirs
  abbrev pub IsAfterAll : List (Entry S) → Entry S → Type 0
  IsAfterAll es e = AllByRecursion (λ d. entry_cmp d e ≡ Less) es

  -- the entry is the last of the list
  abbrev pub EndsWith : Entry S → List (Entry S) → Type 0
  EndsWith e es = (front : List (Entry S)) × (es ≡ front ++ e ∷ [])

  -- the attribute that the entry may change
  abbrev pub attribute_of : Entry S → Attribute S
  attribute_of e = record { name = e.name; args = e.args }

  -- what is kept of the entries from the floor on: those dated at or after it, and for each attribute its changes of the greatest date before it
  abbrev pub IsKept : List (Entry S) → ℤ → Entry S → Type 0
  IsKept es floor e = (floor ≤ℤ pos e.date) ⊎ IsLastChange (attribute_of e) es (floor -ℤ pos 1) e

-- the history holds what is kept of the entries from its floor on, in their order
abbrev pub StandsFor : List (Entry Sym) → HistoryState → Type 0
StandsFor es h = Sifts (IsKept es h.floor) es h.entries
