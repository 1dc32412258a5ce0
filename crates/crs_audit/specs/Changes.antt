-- The changes of an attribute among entries in the order of their dates, and whether it has a value over a stretch.
use Rattle.std.specs.Prelude.{◌≡◌, ◌<◌, ◌≤◌, ℕ, ℤ, pos, ◌+ℤ◌, List, Option, Some, None, IsSome, IsSomeAnd}
use Rattle.std.specs.List.{AllZip, AllByRecursion}
use Rattle.crs_base.specs.Entry.{Entry}
use Rattle.crs_base.specs.declared.symbols.Sym.{Sym}
use Rattle.crs_base.specs.Words.{IsIn}
use Rattle.crs_model.specs.Models.{Term}
use Rattle.crs_model.specs.Matching.{Binding, TermIs}
use Rattle.crs_audit.specs.CitedDates.{dated_in}

-- one of the first entries of the log, which changes the attribute of this name and these terms
pub record IsTurn (look : Binding Sym) (name : Sym) (terms : List (Term Sym)) (accepted : ℕ) (e : Entry Sym) : Type 0 where
  pub early : e.arrival < accepted
  pub named : e.name ≡ name
  pub of : AllZip (TermIs look) terms e.args
  pub change : IsSome e.change

-- its new value is that of the term
abbrev pub Brings : Binding Sym → Term Sym → Entry Sym → Type 0
Brings look value e = IsSomeAnd e.change (λ c. TermIs look value c.1)

-- the date of the last of them that is such, or none is
abbrev pub IsLastDate : (Entry Sym → Type 0) → List (Entry Sym) → Option ℕ → Type 0
IsLastDate P es None = AllByRecursion (λ e. P e → ⊥) es
IsLastDate P es (Some date) = (e : Entry Sym) × IsIn e es × P e × (e.date ≡ date) × AllByRecursion (λ d. P d → d.date ≤ date) es

-- some are such up to a date, and from the last date of these on all that are such bring something
pub record IsKept (P Q : Entry Sym → Type 0) (es : List (Entry Sym)) (from to : ℤ) : Type 0 where
  pub date : ℕ
  pub last : IsLastDate P (dated_in (pos 0) (from +ℤ pos 1) es) (Some date)
  pub brought : AllByRecursion (λ e. P e → Q e) (dated_in (pos date) to es)
