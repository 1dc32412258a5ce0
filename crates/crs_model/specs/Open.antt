-- The open partial assignments, the recognised assignments, and the two together.
use Rattle.std.specs.Prelude.{◌≡◌, ◌≤◌, ℕ, List, map, Some, filter, nat_lt, slice_get, if◌then◌else◌}
use Rattle.crs_base.specs.Words.{IsIn, Ordered}
use Rattle.crs_stn.specs.Bound.{MeetsInPart}
use Rattle.crs_base.specs.Entry.{Entry}
use Rattle.crs_model.specs.Models.{Chronicle, Window}
use Rattle.crs_model.specs.Matching.{Binding, Assignment, IsAssignment}
use Rattle.crs_model.specs.Partial.{Partial, IsPartial, IsLevelClosed, CanGoOn, dates_of}
use Rattle.crs_model.specs.Verdicts.{IsMet, IsLost}

module _ {S : Type 0} where
  -- the entries that the assignments of a chronicle may take: the settled ones, or, where it is prompt, those that had arrived by the last mark
  abbrev pub pool_among : Chronicle S → List (Entry S) → List (Entry S) → List (Entry S)
  pool_among c settled arrived = if c.prompt then arrived else settled

  -- the partial assignments over the pool that can still be recognised: level-closed, with dates that can go on at h, and no window lost at h over the entries
  pub record IsOpen (c : Chronicle S) (level : ℕ → ℕ) (pool entries : List (Entry S)) (h : ℕ) (a : Partial S) : Type 0 where
    pub look : Binding S
    pub partial : IsPartial c pool a look
    pub closed : IsLevelClosed level a
    pub dates : CanGoOn c level a h
    pub windows : (w : Window S) → IsIn w c.windows → IsLost look a entries h w → ⊥

  -- each event bound
  abbrev pub whole : Assignment S → Partial S
  whole b = map Some b.entries

  -- an assignment over the pool that meets the bounds, all of whose windows are met at h over the entries
  pub record IsRecognised (c : Chronicle S) (pool entries : List (Entry S)) (h : ℕ) (b : Assignment S) : Type 0 where
    pub assignment : IsAssignment c pool b
    pub bounds : MeetsInPart c.bounds (dates_of (whole b))
    pub windows : (w : Window S) → IsIn w c.windows → IsMet (slice_get b.values) (whole b) entries h w

  -- recognised now, over the pool and the entries at h, and not before, over what the pool and the entries were at g
  abbrev pub IsNew : Chronicle S → List (Entry S) → List (Entry S) → ℕ → List (Entry S) → List (Entry S) → ℕ → Assignment S → Type 0
  IsNew c was_pool was g pool now h b = IsRecognised c pool now h b × (IsRecognised c was_pool was g b → ⊥)

  -- the partial assignment that binds each event as a recognised one does
  abbrev pub IsRecognisedWhole : Chronicle S → List (Entry S) → List (Entry S) → ℕ → Partial S → Type 0
  IsRecognisedWhole c pool entries h a = (b : Assignment S) × (a ≡ whole b) × IsRecognised c pool entries h b

  -- open at h, and not recognised then
  abbrev pub IsLive : Chronicle S → (ℕ → ℕ) → List (Entry S) → List (Entry S) → ℕ → Partial S → Type 0
  IsLive c level pool entries h a = IsOpen c level pool entries h a × (IsRecognisedWhole c pool entries h a → ⊥)

  -- the entries dated before g
  abbrev pub before : ℕ → List (Entry S) → List (Entry S)
  before g entries = filter (λ e. nat_lt e.date g) entries

  -- open over the pool and the entries at d, and not recognised at g over what was the pool then
  abbrev pub IsKept : Chronicle S → (ℕ → ℕ) → List (Entry S) → List (Entry S) → List (Entry S) → ℕ → ℕ → Partial S → Type 0
  IsKept c level was pool entries d g a = IsOpen c level pool entries d a × (IsRecognisedWhole c was (before g entries) g a → ⊥)

  -- each is wanted
  abbrev pub AllWanted : Partial S → Type 0
  AllWanted a = Unit {0}

  -- What is held, without repeats, is so, and all that is so and wanted is held. `was` is the pool at the last mark, whose horizon is g.
  pub record StandsFor (c : Chronicle S) (level : ℕ → ℕ) (Wanted : Partial S → Type 0) (held : List (Partial S)) (was pool entries : List (Entry S)) (d g : ℕ) : Type 0 where
    pub was_in : (e : Entry S) → IsIn e was → IsIn e pool
    pub entries_in : (e : Entry S) → IsIn e entries → IsIn e pool
    pub marked : g ≤ d
    pub distinct : Ordered (λ a b. a ≡ b → ⊥) held
    pub each : (a : Partial S) → IsIn a held → IsKept c level was pool entries d g a
    pub all : (a : Partial S) → IsKept c level was pool entries d g a → Wanted a → IsIn a held
