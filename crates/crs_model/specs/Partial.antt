-- Partial assignments: an entry or none for each event.
use Rattle.std.specs.Prelude.{◌≡◌, ◌≢◌, ℕ, ◌<◌, ◌≤◌, ℤ, pos, ◌≤ℤ◌, List, length, Option, Some, None, option_map, slice_get, slice_index_or, slice_set, IfSome}
use Rattle.crs_base.specs.Words.{IsIn}
use Rattle.crs_stn.specs.Bound.{Meets, Agrees}
use Rattle.crs_base.specs.Entry.{Entry}
use Rattle.crs_model.specs.Models.{Chronicle}
use Rattle.crs_model.specs.Matching.{Binding, PatternIs, IsAllowed}

abbrev pub Partial : Type 0 → Type 0
Partial S = List (Option (Entry S))

module _ {S : Type 0} where
  -- what an event is bound to
  abbrev pub at : Partial S → ℕ → Option (Entry S)
  at a e = slice_index_or a e None

  -- the event bound to the entry too
  abbrev pub put : Partial S → ℕ → Entry S → Partial S
  put a e x = slice_set a e (Some x)

  -- the bound events' patterns equal their entries
  abbrev pub EqualsAll : Chronicle S → Partial S → Binding S → Type 0
  EqualsAll c a look = (e : ℕ) → IfSome (slice_get c.events e) (λ v. IfSome (at a e) (λ x. PatternIs look v.pattern x))

  -- the least binding that makes the bound events' patterns equal their entries
  pub record IsLeast (c : Chronicle S) (a : Partial S) (look : Binding S) : Type 0 where
    pub equal : EqualsAll c a look
    pub least : (other : Binding S) → EqualsAll c a other → (v : ℕ) (x : S) → look v ≡ Some x → other v ≡ Some x

  -- no entry is given twice
  abbrev pub GivesNoneTwice : Partial S → Type 0
  GivesNoneTwice a = (e f : ℕ) → e ≢ f → IfSome (at a e) (λ x. IfSome (at a f) (λ y. x.arrival ≢ y.arrival))

  -- a partial assignment over the entries, and its binding
  pub record IsPartial (c : Chronicle S) (pool : List (Entry S)) (a : Partial S) (look : Binding S) : Type 0 where
    pub len : length a ≡ length c.events
    pub given : (e : ℕ) → IfSome (at a e) (λ x. IsIn x pool)
    pub distinct : GivesNoneTwice a
    pub binding : IsLeast c a look
    pub allowed : IsAllowed c look

  -- an event is bound only if all events of lower levels are
  abbrev pub IsLevelClosed : (ℕ → ℕ) → Partial S → Type 0
  IsLevelClosed level a = (e f : ℕ) → e < length a → level e < level f → at a e ≡ None → at a f ≡ None

  -- the event is unbound, and none of a lower level is
  pub record IsAwaited (level : ℕ → ℕ) (a : Partial S) (f : ℕ) : Type 0 where
    pub within : f < length a
    pub unbound : at a f ≡ None
    pub least : (e : ℕ) → e < length a → at a e ≡ None → level f ≤ level e

  -- the bound events' dates
  abbrev pub dates_of : Partial S → ℕ → Option ℤ
  dates_of a p = option_map (λ e. pos e.date) (at a p)

  -- whole dates exist that meet the bounds, agree with the entries, and give each awaited event a date at or after h
  abbrev pub CanGoOn : Chronicle S → (ℕ → ℕ) → Partial S → ℕ → Type 0
  CanGoOn c level a h = (t : ℕ → ℤ) × Agrees (dates_of a) t × Meets c.bounds t × ((f : ℕ) → IsAwaited level a f → pos h ≤ℤ t f)
