-- What comes of a held partial assignment when an entry is offered and levels are read.
use Rattle.std.specs.Prelude.{◌≡◌, ◌⊎◌, ◌<◌, ℕ, List, length, Some, None}
use Rattle.crs_base.specs.Words.{IsIn}
use Rattle.crs_base.specs.Entry.{Entry}
use Rattle.crs_stn.specs.Bound.{MeetsInPart}
use Rattle.crs_model.specs.Models.{Chronicle, Window}
use Rattle.crs_model.specs.Matching.{Binding}
use Rattle.crs_model.specs.Verdicts.{IsLost}
use Rattle.crs_model.specs.Partial.{Partial, at, put, IsPartial, IsAwaited, dates_of}

module _ {S : Type 0} where
  -- b has what a has, and beyond it only events of levels above l
  pub record GrowsTo (level : ℕ → ℕ) (l : ℕ) (a b : Partial S) : Type 0 where
    pub len : length a ≡ length b
    pub part : (e : ℕ) (x : Entry S) → at a e ≡ Some x → at b e ≡ Some x
    pub beyond : (f : ℕ) (y : Entry S) → at a f ≡ None → at b f ≡ Some y → l < level f

  -- a, where that is fine; or what has x at an event that a awaits, and beyond that only events of higher levels, where that is fine
  abbrev pub GoesOnByLevel : (ℕ → ℕ) → (Partial S → Type 0) → Entry S → Partial S → Partial S → Type 0
  GoesOnByLevel level Fine x a b = ((b ≡ a) × Fine b) ⊎ ((e : ℕ) × IsAwaited level a e × GrowsTo level (level e) (put a e x) b × Fine b)

  -- b has what a has, and beyond it only events of the list and events of levels above l
  pub record GrowsIn (level : ℕ → ℕ) (l : ℕ) (todo : List ℕ) (a b : Partial S) : Type 0 where
    pub len : length a ≡ length b
    pub part : (e : ℕ) (x : Entry S) → at a e ≡ Some x → at b e ≡ Some x
    pub beyond : (f : ℕ) (y : Entry S) → at a f ≡ None → at b f ≡ Some y → IsIn f todo ⊎ (l < level f)

  -- what can be decided from a on, where the events of the list, all of level l, are still to be decided on: to be bound or left
  abbrev pub Decides : (ℕ → ℕ) → (Partial S → Type 0) → ℕ → List ℕ → Partial S → Partial S → Type 0
  Decides level Fine l todo a b = GrowsIn level l todo a b × Fine b

  -- the same, where the event e is bound to y first
  abbrev pub DecidesWith : (ℕ → ℕ) → (Partial S → Type 0) → ℕ → List ℕ → Partial S → ℕ → Entry S → Partial S → Type 0
  DecidesWith level Fine l rest a e y b = Decides level Fine l rest (put a e y) b

  -- what has x at the event e, which a awaits, and beyond that only events of higher levels, where that is fine
  abbrev pub StartsAt : (ℕ → ℕ) → (Partial S → Type 0) → Entry S → Partial S → ℕ → Partial S → Type 0
  StartsAt level Fine x a e b = IsAwaited level a e × GrowsTo level (level e) (put a e x) b × Fine b

  -- what has x at some event which a awaits
  abbrev pub IsForkByLevel : (ℕ → ℕ) → (Partial S → Type 0) → Entry S → Partial S → Partial S → Type 0
  IsForkByLevel level Fine x a b = (e : ℕ) × StartsAt level Fine x a e b

  -- a partial assignment over the pool whose bound events' dates can be continued, and no window of which is lost at n over the entries
  pub record IsBeginning (c : Chronicle S) (pool entries : List (Entry S)) (n : ℕ) (a : Partial S) : Type 0 where
    pub look : Binding S
    pub partial : IsPartial c pool a look
    pub bounds : MeetsInPart c.bounds (dates_of a)
    pub windows : (w : Window S) → IsIn w c.windows → IsLost look a entries n w → ⊥
