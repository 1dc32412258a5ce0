-- Which plans the entries of a name concern, and where that is kept.
use Rattle.std.specs.Prelude.{Bool, true, ◌≡◌, ◌⊎◌, ◌≤◌, ◌/◌, ◌%◌, ℕ, suc, List, [], ◌∷◌, get_or}
use Rattle.std.specs.Int.{bit_at}
use Rattle.std.specs.Int.Bits.{bit_or}
use Rattle.crs_base.specs.declared.symbols.Sym.{Sym}
use Rattle.crs_base.specs.Words.{IsIn}
use Rattle.crs_model.specs.declared.plan.Plan.{Plan}
use Rattle.crs_model.specs.declared.plan.Plans.{Plans}
use Rattle.crs_model.specs.Plans.{chronicle}
use Rattle.crs_store.specs.Hooks.{LooksFor}
use Rattle.crs_engine.specs.declared.concerned.Concerned.{Concerned}
use Rattle.crs_engine.specs.Engines.{plans_of, has_prompt}

-- the chronicle is prompt, or looks for entries of the name
abbrev pub Concerns : Sym → Plan → Type 0
Concerns name p = (p.chronicle.prompt ≡ true) ⊎ LooksFor (chronicle p) name

-- the bit of each plan that entries of the name concern is set, that of the first one being the least
abbrev pub Tells : ℕ → Sym → List Plan → Type 0
Tells bits name [] = Unit {0}
Tells bits name (p ∷ ps) = (Concerns name p → bits % 2 ≡ 1) × Tells (bits / 2) name ps

-- the bits of the name
abbrev pub bits_of : Concerned → Sym → ℕ
bits_of c name = bit_or (get_or c.looking.items name.0 0) c.prompt

-- so for each name
abbrev pub TellsAll : Concerned → List Plan → Type 0
TellsAll c plans = (name : Sym) → Tells (bits_of c name) name plans

-- what an engine keeps of its plans: whether a chronicle is prompt, and which of them the entries of each name concern
pub record AreKept (plans : Plans) (prompt : Bool) (c : Concerned) : Type 0 where
  pub prompt_is : prompt ≡ has_prompt plans
  pub tells : TellsAll c (plans_of plans)

-- each bit that was set is
abbrev pub KeepsBits : ℕ → ℕ → Type 0
KeepsBits old new = (k : ℕ) → bit_at old k ≤ bit_at new k

-- so of each name
abbrev pub KeepsLooking : List ℕ → List ℕ → Type 0
KeepsLooking old new = (n : ℕ) → KeepsBits (get_or old n 0) (get_or new n 0)

-- the bit of this place is set for each of the names
abbrev pub AreNoted : List Sym → ℕ → List ℕ → Type 0
AreNoted names place looking = (s : Sym) → IsIn s names → bit_at (get_or looking s.0 0) place ≡ 1

abbrev pub KeepsAll : Concerned → Concerned → Type 0
KeepsAll old new = (name : Sym) → KeepsBits (bits_of old name) (bits_of new name)

-- the bit of this place is set for each name whose entries concern the plan
abbrev pub IsKnown : Concerned → Plan → ℕ → Type 0
IsKnown c p place = (name : Sym) → Concerns name p → bit_at (bits_of c name) place ≡ 1

-- so of each of the plans, from this place on
abbrev pub AreKnown : Concerned → List Plan → ℕ → Type 0
AreKnown c [] place = Unit {0}
AreKnown c (p ∷ ps) place = IsKnown c p place × AreKnown c ps (suc place)
