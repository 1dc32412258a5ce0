-- What chronicles emit and use, their strata, and their lags.
use Rattle.std.specs.Prelude.{◌≡◌, ◌⊎◌, ℕ, zero, suc, ◌+◌, ◌≤◌, ◌<◌, ◌==◌, cond, max, ℤ, pos, ◌+ℤ◌, ◌-ℤ◌, List, [], ◌∷◌, ◌++◌, length, map, zip, Option, Some, None, option_map}
use Rattle.std.specs.List.{AllZip, flat_map}
use Rattle.crs_base.specs.Words.{IsIn}
use Rattle.crs_model.specs.Models.{Anchor, Body, NoEvent, Occurs, Hold, Chronicle}
use Rattle.crs_model.specs.Reach.{IsLongest, IsZero}

-- n is the greatest of the numbers of which P holds
pub record IsGreatest (P : ℕ → Type 0) (n : ℕ) : Type 0 where
  pub one : P n
  pub bounds : (m : ℕ) → P m → m ≤ n

module _ {S : Type 0} where
  -- the name of the pattern that a window wants
  abbrev pub wanted : Body S → List S
  wanted (NoEvent p) = p.name ∷ []
  wanted (Occurs least most p) = p.name ∷ []
  wanted (Hold name terms value) = []

  -- the names that a chronicle uses: those of its events' patterns and of its windows'
  abbrev pub used : Chronicle S → List S
  used c = map (λ v. v.pattern.name) c.events ++ flat_map (λ w. wanted w.body) c.windows

  abbrev pub emitted : Chronicle S → List S
  emitted c = map (λ e. e.pattern.name) c.emits

  -- it emits a name that c uses
  abbrev pub Feeds : Chronicle S → Chronicle S → Type 0
  Feeds d c = (x : S) × IsIn x (emitted d) × IsIn x (used c)

  -- none uses a name that it or a later one emits
  abbrev pub AreInOrder : List (Chronicle S) → Type 0
  AreInOrder [] = Unit {0}
  AreInOrder (c ∷ cs) = ((d : Chronicle S) → IsIn d (c ∷ cs) → Feeds d c → ⊥) × AreInOrder cs

  -- one more than the stratum of one of these chronicles that emits the name
  abbrev pub IsAboveBy : List (Chronicle S × ℕ) → S → ℕ → Type 0
  IsAboveBy cs x n = (d : Chronicle S) × (k : ℕ) × IsIn (d, k) cs × IsIn x (emitted d) × (n ≡ suc k)

  -- one more than the stratum of a chronicle that feeds c
  abbrev pub IsAbove : List (Chronicle S) → List ℕ → Chronicle S → ℕ → Type 0
  IsAbove cs strata c n = (d : Chronicle S) × (k : ℕ) × IsIn (d, k) (zip cs strata) × Feeds d c × (n ≡ suc k)

  -- the stratum of each chronicle: 0 where none feeds it, else one more than the greatest stratum of those that do
  abbrev pub AreStrata : List (Chronicle S) → List ℕ → Type 0
  AreStrata cs strata = AllZip (λ c n. IsGreatest (λ m. (m ≡ 0) ⊎ IsAbove cs strata c m) n) cs strata

  -- the line closes the first chronicle that gives entries; there is none where none does
  abbrev pub IsEmitLine : List (Chronicle S) → Option ℕ → Type 0
  IsEmitLine [] line = line ≡ None
  IsEmitLine (c ∷ cs) line = ((c.emits ≡ []) × IsEmitLine cs line) ⊎ ((c.emits ≡ [] → ⊥) × (line ≡ Some c.line))

-- from the event p to the last date of a window with the end b
abbrev pub end_span : (ℕ → ℕ → Option ℤ) → ℕ → Anchor → Option ℤ
end_span most p b = option_map (λ m. (m +ℤ b.offset) -ℤ pos 1) (most p b.event)

-- from the event p to the last date of a window with one of the ends
abbrev pub IsEndSpan : (ℕ → ℕ → Option ℤ) → List Anchor → ℕ → Option ℤ → Type 0
IsEndSpan most ends p s = (b : Anchor) × IsIn b ends × (s ≡ end_span most p b)

-- from the event p to an event below n, or to the last date of a window
abbrev pub IsEmitSpan : ℕ → (ℕ → ℕ → Option ℤ) → List Anchor → ℕ → Option ℤ → Type 0
IsEmitSpan n most ends p s = ((r : ℕ) × (r < n) × (s ≡ most p r)) ⊎ IsEndSpan most ends p s

-- the longest of 0 and of the spans from the events of emits; None is infinite
abbrev pub IsLag : ℕ → (ℕ → ℕ → Option ℤ) → List Anchor → List ℕ → Option ℤ → Type 0
IsLag n most ends from = IsLongest (λ s. IsZero s ⊎ ((p : ℕ) × IsIn p from × IsEmitSpan n most ends p s))

-- the lag of a chronicle with these least bounds
abbrev pub IsLagOf : {S : Type 0} → Chronicle S → (ℕ → ℕ → Option ℤ) → Option ℤ → Type 0
IsLagOf c most lag = IsLag (length c.events) most (map (λ w. w.to) c.windows) (map (λ e. e.event) c.emits) lag

-- a lag as a number of ticks; 0 where it is infinite
abbrev pub ticks_of : Option ℤ → ℕ
ticks_of (Some (pos n)) = n
ticks_of _ = 0

-- the greatest lag of the stratum j, where each chronicle has its stratum and its lag; 0 where there is none
abbrev pub lag_at : ℕ → List (ℕ × Option ℤ) → ℕ
lag_at j [] = 0
lag_at j (c ∷ cs) = max (cond (c.0 == j) (ticks_of c.1) 0) (lag_at j cs)

-- how many ticks the horizon of the stratum j lies behind that of stratum 0: the sum of the lags of the strata below it
abbrev pub lag_below : List (ℕ × Option ℤ) → ℕ → ℕ
lag_below cs zero = 0
lag_below cs (suc j) = lag_below cs j + lag_at j cs
