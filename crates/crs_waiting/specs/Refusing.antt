-- Entries that a window refuses, whatever is bound.
use Rattle.std.specs.Prelude.{ℤ}
use Rattle.crs_base.specs.declared.symbols.Sym.{Sym}
use Rattle.crs_base.specs.Entry.{Entry}
use Rattle.crs_model.specs.HasProgress.{Hits, Spares}
use Rattle.crs_model.specs.Matching.{Binding}
use Rattle.crs_model.specs.Models.{Body}

-- whatever is bound and whatever the stretch, x neither counts for the body nor breaks it
abbrev pub Refuses : Body Sym → Entry Sym → Type 0
Refuses body x = (look : Binding Sym) (from to : ℤ) → (Hits look body from to x → ⊥) × Spares look body from to x
