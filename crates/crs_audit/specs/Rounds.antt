-- Dates that are raised along bounds, round by round.
use Rattle.std.specs.Prelude.{◌≡◌, ◌<◌, ℕ, ◌*◌, ◌^◌, ℤ, pos, ◌+ℤ◌, ◌≤ℤ◌, ◌<ℤ◌, List, All, Option, Some, None, IfSome, IsSomeAnd, slice_index_or}
use Rattle.crs_stn.specs.declared.bound.Bound.{Bound}
use Rattle.crs_stn.specs.Bound.{Keeps, Meets}
use Rattle.crs_audit.specs.declared.bounds.Raising.{Raising}
use Rattle.crs_audit.specs.declared.bounds.Raising.TheVariants.{Kept, Raised, Failed}

-- what the bound asks for by the dates x is given by the dates y
abbrev pub IsAsked : (ℕ → Option ℤ) → (ℕ → Option ℤ) → Bound → Type 0
IsAsked x y b = IfSome b.most (λ m. IfSome (x b.to) (λ u. IsSomeAnd (y b.from) (λ v. u ≤ℤ (v +ℤ m))))

-- the dates of points below n aren't above the dates t
abbrev pub AreUnder : ℕ → (ℕ → Option ℤ) → (ℕ → ℤ) → Type 0
AreUnder n x t = (p : ℕ) → p < n → IfSome (x p) (λ d. d ≤ℤ t p)

-- One round takes the dates x to y: none falls, all that the bounds ask for by x is given, and no dates that meet the bounds are passed.
pub record IsRound (n : ℕ) (bounds : List Bound) (x y : ℕ → Option ℤ) : Type 0 where
  pub rises : (p : ℕ) → p < n → IfSome (x p) (λ u. IsSomeAnd (y p) (λ v. u ≤ℤ v))
  pub asked : All (IsAsked x y) bounds
  pub under : (t : ℕ → ℤ) → Meets bounds t → AreUnder n x t → AreUnder n y t

-- some point's date rises, or is its first
abbrev pub HasRisen : ℕ → (ℕ → Option ℤ) → (ℕ → Option ℤ) → Type 0
HasRisen n x y = (p : ℕ) × (p < n) × IsSomeAnd (y p) (λ v. IfSome (x p) (λ u. u <ℤ v))

-- the date of a point, if one is known
abbrev pub date_in : List (Option ℤ) → ℕ → Option ℤ
date_in dates p = slice_index_or dates p None

-- no date is farther from 0 than k times the greatest size of a bound
pub record IsNear (k : ℕ) (d : ℤ) : Type 0 where
  pub not_above : d ≤ℤ pos (k * 2 ^ 40)
  pub not_below : pos 0 ≤ℤ (d +ℤ pos (k * 2 ^ 40))

abbrev pub AreNear : ℕ → List (Option ℤ) → Type 0
AreNear k dates = (p : ℕ) → IfSome (date_in dates p) (IsNear k)

-- by the dates x, the bound takes the dates y to z: none falls, the bound is given what it asks for, and no dates that keep it are passed
pub record IsStep (b : Bound) (x y z : ℕ → Option ℤ) : Type 0 where
  pub rises : (p : ℕ) → IfSome (y p) (λ u. IsSomeAnd (z p) (λ v. u ≤ℤ v))
  pub asked : IsAsked x z b
  pub under : (n : ℕ) → b.to < n → (t : ℕ → ℤ) → Keeps t b → AreUnder n x t → AreUnder n y t → AreUnder n z t

-- no dates that keep the bound, aren't below those of x, and have an event's date where the bound asks for a later one
abbrev pub IsBroken : Bound → ℕ → (x y : ℕ → Option ℤ) → Type 0
IsBroken b events x y =
    (b.from < events) × ((n : ℕ) → b.to < n → (t : ℕ → ℤ) → Keeps t b → AreUnder n x t → y b.from ≡ Some (t b.from) → ⊥)

-- what a bound does: the dates stay and keep it; a free point's date rises, and no event's changes; or the bound can't be kept
abbrev pub IsRaising : Bound → ℕ → (x y z : ℕ → Option ℤ) → Raising → Type 0
IsRaising b events x y z Kept = ((p : ℕ) → z p ≡ y p) × IsStep b x y z
IsRaising b events x y z Raised = IsStep b x y z × ((p : ℕ) → p < events → z p ≡ y p) × HasRisen 24 y z
IsRaising b events x y z Failed = IsBroken b events x y

abbrev pub both : Raising → Raising → Raising
both first Kept = first
both first Raised = Raised
both first Failed = Failed

-- what all bounds do
abbrev pub IsRaisingAll : List Bound → ℕ → (x z : ℕ → Option ℤ) → Raising → Type 0
IsRaisingAll bounds events x z Kept = ((p : ℕ) → z p ≡ x p) × All (IsAsked x z) bounds
IsRaisingAll bounds events x z Raised = IsRound 24 bounds x z × ((p : ℕ) → p < events → z p ≡ x p) × HasRisen 24 x z
IsRaisingAll bounds events x z Failed =
    (t : ℕ → ℤ) → Meets bounds t → AreUnder 24 x t → ((p : ℕ) → p < events → x p ≡ Some (t p)) → ⊥
