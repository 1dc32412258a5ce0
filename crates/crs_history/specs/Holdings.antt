-- What a history holds: older changes, and behind them the ring, with what finds them.
use Rattle.std.specs.Prelude.{◌≡◌, ◌⊎◌, ◌≤◌, ◌<◌, ◌+◌, ◌*◌, ◌^◌, ℕ, ℤ, pos, ◌≤ℤ◌, ◌<ℤ◌, List, [], ◌∷◌, ◌++◌, length, IsSome}
use Rattle.crs_base.specs.declared.symbols.Sym.{Sym}
use Rattle.crs_base.specs.Words.{IsIn}
use Rattle.crs_base.specs.Sifted.{Sifts}
use Rattle.crs_base.specs.Entry.{Entry, IsInKeyOrder}
use Rattle.crs_base.specs.Values.{Attribute, IsChange}
use Rattle.crs_history.specs.Histories.{attribute_of}
use Rattle.crs_history.specs.Keyed.{KeyedState, AreKeyed}
use Rattle.crs_history.specs.Tracks.{TracksState, track_of, AreOwned}

pub record HoldingsState : Type 0 where
  pub older : List (Entry Sym)
  pub ring : List (Entry Sym)

-- all that is held, in key order
abbrev pub held_of : HoldingsState → List (Entry Sym)
held_of h = h.older ++ h.ring

-- the entry is a change
abbrev pub IsChanging : Entry Sym → Type 0
IsChanging e = IsSome e.change

-- each is a change, and none is of the same attribute as another and dated after it
pub record AreLatest (es : List (Entry Sym)) : Type 0 where
  pub changes : (e : Entry Sym) → IsIn e es → IsChanging e
  pub latest : (e d : Entry Sym) → IsIn e es → IsIn d es → IsChange (attribute_of e) d → d.date ≤ e.date

abbrev pub AreBefore : ℕ → List (Entry Sym) → Type 0
AreBefore date es = (e : Entry Sym) → IsIn e es → e.date < date

-- the older ones are the latest of their attributes, the ring's entries stand by number, and each attribute's track has its changes
pub record AreHoldings (older ring : List (Entry Sym)) (keyed : KeyedState) (tracks : TracksState) : Type 0 where
  pub in_order : IsInKeyOrder (older ++ ring)
  pub latest : AreLatest older
  pub found : AreKeyed ring keyed
  pub tracked : (a : Attribute Sym) → Sifts (IsChange a) (older ++ ring) (track_of tracks a)
  pub owned : AreOwned tracks

-- so many are the older ones, and a machine can count all that is held
pub record AreCounted (count : ℕ) (older ring : List (Entry Sym)) : Type 0 where
  pub older_ones : count ≡ length older
  pub small : count + length ring < 2 ^ 63

-- e is dated before the date, and isn't a change, or another change of its attribute is dated after it and before the date
pub record IsPast (es : List (Entry Sym)) (date : ℕ) (e : Entry Sym) : Type 0 where
  pub before : e.date < date
  pub past : (IsChanging e → ⊥) ⊎ ((d : Entry Sym) × IsIn d es × IsChange (attribute_of e) d × (e.date < d.date) × (d.date < date))

-- the list has e behind it, where P holds of e
abbrev pub Extends : {A : Type 0} → (A → Type 0) → A → List A → List A → Type 0
Extends {A} P e old new = (more : List A) × (new ≡ old ++ more) × Sifts P (e ∷ []) more

-- how many entries are held, those of the ring counted twice
abbrev pub weight : HoldingsState → ℕ
weight h = length h.older + 2 * length h.ring

-- the older ones are dated before the floor, and those of the ring not
pub record IsSplitAt (floor : ℤ) (h : HoldingsState) : Type 0 where
  pub before : (e : Entry Sym) → IsIn e h.older → pos e.date <ℤ floor
  pub since : (e : Entry Sym) → IsIn e h.ring → floor ≤ℤ pos e.date
