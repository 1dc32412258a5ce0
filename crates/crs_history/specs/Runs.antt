-- Changes of a track, each told how many right before it bring its value.
use Rattle.std.specs.Prelude.{◌≡◌, Bool, ◌⊎◌, ◌+◌, ◌-◌, ◌^◌, ℕ, min, List, [], ◌∷◌, ◌++◌, map, ⊤}
use Rattle.crs_base.specs.declared.symbols.Sym.{Sym}
use Rattle.crs_base.specs.Entry.{Entry}
use Rattle.crs_base.specs.Seen.{entry_of}
use Rattle.crs_base.specs.Values.{NewIs}
use Rattle.crs_history.specs.Looking.{is_before, is_since}
use Rattle.crs_history.specs.declared.track.Change.{Change}

-- a change, and how many right before it bring its value
pub record Told : Type 0 where
  pub entry : Entry Sym
  pub repeats : ℕ

-- each brings the values that the other does
pub record BringSame (d e : Entry Sym) : Type 0 where
  pub on : (v : Sym) → NewIs v d → NewIs v e
  pub back : (v : Sym) → NewIs v e → NewIs v d

-- no value is brought by both
abbrev pub BringOthers : Entry Sym → Entry Sym → Type 0
BringOthers d e = (v : Sym) → NewIs v d → NewIs v e → ⊥

-- d stands right behind c: it counts one more than c where both bring one value, up to the type's end, and else none
abbrev pub Follows : Told → Told → Type 0
Follows c d = (BringSame c.entry d.entry × (d.repeats ≡ min (c.repeats + 1) (2 ^ 64 - 1))) ⊎ (BringOthers c.entry d.entry × (d.repeats ≡ 0))

abbrev pub IsFollowedBy : Told → List Told → Type 0
IsFollowedBy c [] = ⊤
IsFollowedBy c (d ∷ ds) = Follows c d

-- each follows the one before it
abbrev pub AreToldInTurn : List Told → Type 0
AreToldInTurn [] = ⊤
AreToldInTurn (c ∷ cs) = IsFollowedBy c cs × AreToldInTurn cs

abbrev pub told_of : Change → Told
told_of c = record { entry = entry_of c.entry.value; repeats = c.repeats }

abbrev pub changes_of : List Change → List (Entry Sym)
changes_of cs = map (λ c. entry_of c.entry.value) cs

abbrev pub AreRuns : List Change → Type 0
AreRuns cs = AreToldInTurn (map told_of cs)

abbrev pub is_early : ℕ → Change → Bool
is_early date c = is_before date (entry_of c.entry.value)

abbrev pub is_late : ℕ → Change → Bool
is_late date c = is_since date (entry_of c.entry.value)

-- the entry is the first of the list
abbrev pub BeginsWith : Entry Sym → List (Entry Sym) → Type 0
BeginsWith e es = (rest : List (Entry Sym)) × (es ≡ e ∷ rest)

-- the change is the last of the list
abbrev pub EndsIn : Change → List Change → Type 0
EndsIn c cs = (front : List Change) × (cs ≡ front ++ c ∷ [])
