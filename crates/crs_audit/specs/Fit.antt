-- The binding of an assignment's entries.
use Rattle.std.specs.Prelude.{◌≡◌, List, length, Option, Some, None}
use Rattle.std.specs.List.{AllZip}
use Rattle.crs_base.specs.declared.symbols.Sym.{Sym}
use Rattle.crs_base.specs.Entry.{Entry}
use Rattle.crs_model.specs.Models.{EventDef, Chronicle}
use Rattle.crs_model.specs.Matching.{Binding, PatternIs, IsAllowed}
use Rattle.crs_model.specs.Bindings.{look_of, Looser}

-- by the binding each event's pattern equals its entry, one for each
abbrev pub AreEqual : List (EventDef Sym) → List (Entry Sym) → Binding Sym → Type 0
AreEqual events entries look = AllZip (λ v e. PatternIs look v.pattern e) events entries

-- so it is, and the variables have allowed values
abbrev pub Fits : Chronicle Sym → List (Entry Sym) → Binding Sym → Type 0
Fits c entries look = AreEqual c.events entries look × IsAllowed c look

-- the least binding that fits, or none where none fits
abbrev pub IsBindingOf : Chronicle Sym → List (Entry Sym) → Option (List (Option Sym)) → Type 0
IsBindingOf c entries None = (other : Binding Sym) → Fits c entries other → ⊥
IsBindingOf c entries (Some b) =
    Fits c entries (look_of b) × ((other : Binding Sym) → Fits c entries other → Looser (look_of b) other) × (length b ≡ length c.variables)
