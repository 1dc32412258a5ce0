-- A text that is written, or a front of it.
use Rattle.std.specs.Prelude.{◌≡◌, ◌⊎◌, ℕ, List, ◌++◌, length, take}
use Rattle.crs_desk.specs.Desk.{Told, Wrote}
use Rattle.crs_outcomes.specs.declared.status.Status.{Status}
use Rattle.crs_outcomes.specs.declared.status.Status.TheVariants.{WriteFault, Memory}

-- a text of which P holds was appended
abbrev pub Appends : (List ℕ → Type 0) → List ℕ → List ℕ → Type 0
Appends P old new = (text : List ℕ) × P text × (new ≡ old ++ text)

-- a front of a text of which P holds was appended
abbrev pub AppendsFront : (List ℕ → Type 0) → List ℕ → List ℕ → Type 0
AppendsFront P old new = (text : List ℕ) × (k : ℕ) × P text × (new ≡ old ++ take k text)

-- the text is written, and the status is this one; or a front of it is, after a write fault or for want of memory
abbrev pub Says : Status → Told → List ℕ → Status → Told → Type 0
Says done old text status new =
    ((status ≡ done) × Wrote old text (length text) new) ⊎ (((status ≡ WriteFault) ⊎ (status ≡ Memory)) × ((k : ℕ) × Wrote old text k new))
