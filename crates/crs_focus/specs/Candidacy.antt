-- Which held entries an event may have been.
use Rattle.std.specs.Prelude.{◌≡◌, ◌≢◌, ◌≤◌, ℕ, ℤ, pos, ◌≤ℤ◌, Bool, not, List, Option, IfSome}
use Rattle.std.specs.Ordering.{is_gt}
use Rattle.std.specs.declared.cmp.Ordering.TheVariants.{Greater}
use Rattle.crs_base.specs.declared.symbols.Sym.{Sym}
use Rattle.crs_base.specs.Entry.{Entry, entry_cmp}
use Rattle.crs_base.specs.Sifted.{Sifts}
use Rattle.crs_history.specs.Dropping.{Drops}
use Rattle.crs_history.specs.Keyed.{IsLike}
use Rattle.crs_model.specs.declared.date_window.DateWindow.{DateWindow}

-- e has the name, and is dated from the floor on and in the window
pub record IsHeldFor (floor : ℤ) (name : Sym) (window : DateWindow) (e : Entry Sym) : Type 0 where
  pub named : e.name ≡ name
  pub kept : floor ≤ℤ pos e.date
  pub not_soon : IfSome window.least (λ least. least ≤ℤ pos e.date)
  pub not_late : IfSome window.most (λ most. pos e.date ≤ℤ most)

-- the same, and its key isn't after that of until
pub record IsCandidate (floor : ℤ) (name : Sym) (window : DateWindow) (until e : Entry Sym) : Type 0 where
  pub named : e.name ≡ name
  pub kept : floor ≤ℤ pos e.date
  pub not_soon : IfSome window.least (λ least. least ≤ℤ pos e.date)
  pub not_late : IfSome window.most (λ most. pos e.date ≤ℤ most)
  pub up_to : entry_cmp e until ≢ Greater

-- the entry's key isn't after that of until
abbrev pub is_up_to : Entry Sym → Entry Sym → Bool
is_up_to until e = not (is_gt (entry_cmp e until))

-- e is dated from the floor on, in the window, and not after the last date
pub record IsTimely (floor : ℤ) (window : DateWindow) (last : ℕ) (e : Entry Sym) : Type 0 where
  pub kept : floor ≤ℤ pos e.date
  pub not_soon : IfSome window.least (λ least. least ≤ℤ pos e.date)
  pub not_late : IfSome window.most (λ most. pos e.date ≤ℤ most)
  pub by : e.date ≤ last

-- ys are those of the entries, in their order, but that some of other names or symbols are left out
abbrev pub AreCandidates : ℤ → Sym → List (Option Sym) → DateWindow → ℕ → List (Entry Sym) → List (Entry Sym) → Type 0
AreCandidates floor name known window last entries ys = (zs : List (Entry Sym)) × Sifts (IsTimely floor window last) entries zs × Drops (λ e. IsLike name known e → ⊥) zs ys
