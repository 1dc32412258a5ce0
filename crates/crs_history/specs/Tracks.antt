-- Lists of changes by attribute.
use Rattle.std.specs.Prelude.{◌≡◌, ◌≤◌, ◌<◌, ℕ, List, [], ◌∷◌, Option, Some, None}
use Rattle.crs_base.specs.declared.symbols.Sym.{Sym}
use Rattle.crs_base.specs.Words.{IsIn}
use Rattle.crs_base.specs.Entry.{Entry}
use Rattle.crs_base.specs.Values.{Attribute}
use Rattle.crs_history.specs.Histories.{attribute_of}
use Rattle.crs_history.specs.Lanes.{lane_of}
use Rattle.crs_history.specs.ListNumbers.{Steps, IsNumbering, count_of, number_from}

-- the numbers of attributes, and the lists by number
pub record TracksState : Type 0 where
  pub steps : Steps
  pub lanes : List (List (Entry Sym))

-- the attribute's number is that of its name and then its arguments
abbrev pub number_of : Steps → Attribute Sym → Option ℕ
number_of m a = number_from m 0 (a.name ∷ a.args)

abbrev pub track_at : List (List (Entry Sym)) → Option ℕ → List (Entry Sym)
track_at lanes None = []
track_at lanes (Some n) = lane_of lanes n

-- the attribute's list
abbrev pub track_of : TracksState → Attribute Sym → List (Entry Sym)
track_of t a = track_at t.lanes (number_of t.steps a)

-- each entry stands in the list of the attribute that it may change
abbrev pub AreOwned : TracksState → Type 0
AreOwned t = (n : ℕ) (e : Entry Sym) → IsIn e (lane_of t.lanes n) → number_of t.steps (attribute_of e) ≡ Some n

-- no number is given twice, a number that isn't given has no entries, and each entry has its attribute's
pub record AreTracks (t : TracksState) : Type 0 where
  pub numbering : IsNumbering t.steps
  pub owned : AreOwned t
  pub unused : (n : ℕ) → count_of t.steps < n → lane_of t.lanes n ≡ []

-- each attribute has the list that it had
abbrev pub AreSame : TracksState → TracksState → Type 0
AreSame old new = (a : Attribute Sym) → track_of new a ≡ track_of old a

-- the attribute has this list, and each other attribute the one that it had
pub record IsTrackSetTo (old : TracksState) (a : Attribute Sym) (track : List (Entry Sym)) (new : TracksState) : Type 0 where
  pub set : track_of new a ≡ track
  pub others : (b : Attribute Sym) → (b ≡ a → ⊥) → track_of new b ≡ track_of old b

-- x was the first of the attribute's list, and left it
pub record TakesFirst (old : TracksState) (a : Attribute Sym) (x : Entry Sym) (new : TracksState) : Type 0 where
  pub rest : List (Entry Sym)
  pub first : track_of old a ≡ x ∷ rest
  pub taken : IsTrackSetTo old a rest new

-- the first isn't dated before the date
abbrev pub BeginsSince : ℕ → List (Entry Sym) → Type 0
BeginsSince date es = (e : Entry Sym) (rest : List (Entry Sym)) → es ≡ e ∷ rest → date ≤ e.date
