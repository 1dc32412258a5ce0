-- The claims that were noted.
use Rattle.std.specs.Prelude.{◌≡◌, ◌⊎◌, ◌↔◌, ◌<◌, ℕ, Bool, true, false, List, ◌∷◌, length}
use Rattle.crs_base.specs.declared.symbols.Sym.{Sym}
use Rattle.crs_base.specs.Words.{IsIn}
use Rattle.crs_model.specs.Renaming.{text_in}
use Rattle.crs_audit.specs.Audits.{Earlier}

-- the key is there besides the others now; or it was there before
abbrev pub IsNoted : List ℕ → List (List ℕ) → List (List ℕ) → Bool → Type 0
IsNoted key old new true = (IsIn key old → ⊥) × ((k : List ℕ) → IsIn k new ↔ ((k ≡ key) ⊎ IsIn k old))
IsNoted key old new false = IsIn key old

-- a claim is noted by the number of its chronicle's name, and the numbers that it cites
abbrev pub AreNoted : List (List ℕ) → List (List ℕ) → List Earlier → Type 0
AreNoted texts keys earlier = (s : Sym) (numbers : List ℕ) → s.0 < length texts → IsIn (s.0 ∷ numbers) keys ↔ IsIn (text_in texts s, numbers) earlier
