-- What is wrong with the entries of a claim.
use Rattle.std.specs.Prelude.{List, map, Option, Some, None, Result, Ok, Err}
use Rattle.std.specs.List.{AllByRecursion}
use Rattle.crs_base.specs.declared.symbols.Sym.{Sym}
use Rattle.crs_base.specs.Entry.{Entry}
use Rattle.crs_stn.specs.Bound.{MeetsInPart}
use Rattle.crs_model.specs.Models.{Chronicle}
use Rattle.crs_model.specs.Bindings.{look_of}
use Rattle.crs_model.specs.Partial.{dates_of}
use Rattle.crs_model.specs.Verdicts.{IsMet}
use Rattle.crs_audit.specs.declared.run.Stand.{Stand}
use Rattle.crs_audit.specs.declared.words.AuditWord.{AuditWord}
use Rattle.crs_audit.specs.declared.words.AuditWord.TheVariants as words
use Rattle.crs_audit.specs.Fit.{IsBindingOf}
use Rattle.crs_audit.specs.ClaimWindows.{settled_in}

-- their dates meet the bounds
abbrev pub MeetBounds : Chronicle Sym → List (Entry Sym) → Type 0
MeetBounds c entries = MeetsInPart c.bounds (dates_of (map Some entries))

-- by the binding, each window is met at the mark, over the entries in key order
abbrev pub MeetWindows : Chronicle Sym → List (Entry Sym) → List (Entry Sym) → Stand → List (Option Sym) → Type 0
MeetWindows c entries by_key at b = AllByRecursion (IsMet (look_of b) (map Some entries) (settled_in at by_key) at.horizon) c.windows

-- their binding, by which all is met; or the first that isn't
abbrev pub IsFitOf : Chronicle Sym → List (Entry Sym) → List (Entry Sym) → Stand → Result (List (Option Sym)) AuditWord → Type 0
IsFitOf c entries by_key at (Ok b) = IsBindingOf c entries (Some b) × MeetBounds c entries × MeetWindows c entries by_key at b
IsFitOf c entries by_key at (Err words.Fit) = IsBindingOf c entries None
IsFitOf c entries by_key at (Err words.Bounds) = (b : List (Option Sym)) × IsBindingOf c entries (Some b) × (MeetBounds c entries → ⊥)
IsFitOf c entries by_key at (Err words.Window) = (b : List (Option Sym)) × IsBindingOf c entries (Some b) × MeetBounds c entries × (MeetWindows c entries by_key at b → ⊥)
IsFitOf c entries by_key at (Err word) = ⊥
