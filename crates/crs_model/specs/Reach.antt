-- The reach of a chronicle: how far an event's date can lie behind another event's, or behind the start of a window.
-- A span of None is infinite.
use Rattle.std.specs.Prelude.{◌≡◌, ◌⊎◌, ℕ, ℤ, pos, ◌-ℤ◌, ◌≤ℤ◌, ◌<ℤ◌, ◌^◌, ◌<◌, List, length, map, Option, Some, None, option_map, IfSome}
use Rattle.crs_base.specs.Words.{IsIn}
use Rattle.crs_model.specs.Models.{Anchor, Chronicle}

-- the second span is no longer than the first
abbrev pub Bounds : Option ℤ → Option ℤ → Type 0
Bounds None s = Unit {0}
Bounds (Some d) None = ⊥
Bounds (Some d) (Some x) = x ≤ℤ d

-- d is the longest of the spans of which P holds
pub record IsLongest (P : Option ℤ → Type 0) (d : Option ℤ) : Type 0 where
  pub one : P d
  pub bounds : (s : Option ℤ) → P s → Bounds d s

abbrev pub IsZero : Option ℤ → Type 0
IsZero s = s ≡ Some (pos 0)

-- the most that the date of r lies behind the anchor
abbrev pub span_of : (ℕ → ℕ → Option ℤ) → Anchor → ℕ → Option ℤ
span_of most a r = option_map (λ m. m -ℤ a.offset) (most a.event r)

-- from the anchor to an event below n
abbrev pub IsSpanFrom : ℕ → (ℕ → ℕ → Option ℤ) → Anchor → Option ℤ → Type 0
IsSpanFrom n most a s = (r : ℕ) × (r < n) × (s ≡ span_of most a r)

-- from an event below k to one below n
abbrev pub IsPairSpan : ℕ → ℕ → (ℕ → ℕ → Option ℤ) → Option ℤ → Type 0
IsPairSpan k n most s = (p r : ℕ) × (p < k) × (r < n) × (s ≡ most p r)

-- from one of the anchors to an event below n
abbrev pub IsStartSpan : ℕ → (ℕ → ℕ → Option ℤ) → List Anchor → Option ℤ → Type 0
IsStartSpan n most starts s = (a : Anchor) × IsIn a starts × IsSpanFrom n most a s

-- the longest of 0, of the spans between n events, and of those from the windows' starts to events
abbrev pub IsReach : ℕ → (ℕ → ℕ → Option ℤ) → List Anchor → Option ℤ → Type 0
IsReach n most starts = IsLongest (λ s. IsZero s ⊎ (IsPairSpan n n most s ⊎ IsStartSpan n most starts s))

-- a finite span is below 2 ^ 45
abbrev pub IsSmallSpan : Option ℤ → Type 0
IsSmallSpan s = IfSome s (λ d. d <ℤ pos (2 ^ 45))

-- the reach of a chronicle with these least bounds
abbrev pub IsReachOf : {S : Type 0} → Chronicle S → (ℕ → ℕ → Option ℤ) → Option ℤ → Type 0
IsReachOf c most reach = IsReach (length c.events) most (map (λ w. w.from) c.windows) reach

-- the longest of several, and 0 where there is none
abbrev pub IsReachOfAll : List (Option ℤ) → Option ℤ → Type 0
IsReachOfAll reaches = IsLongest (λ s. IsZero s ⊎ IsIn s reaches)
