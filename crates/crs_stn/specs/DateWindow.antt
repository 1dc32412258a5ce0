-- The dates that a point can still have, where the dates of some points are given.
use Rattle.std.specs.Prelude.{ℕ, ℤ, zero, suc, ◌+ℤ◌, ◌-ℤ◌, ◌≤ℤ◌, ◌≡◌, ◌<◌, List, Option, Some, None, IfSome, Bool, IsTrue, ◌==◌, if◌then◌else◌}
use Rattle.std.specs.Int.{int_max}
use Rattle.crs_stn.specs.declared.bound.Bound.{Bound}
use Rattle.crs_stn.specs.Bound.{Meets, Agrees, MeetsInPart, IsWithin, IsConsistent}
use Rattle.crs_stn.specs.Cycle.{lesser}
use Rattle.crs_stn.specs.Network.{IsMinimal, IsPairwiseWithin}

-- ---- by the existence of dates

-- dates that meet the bounds and agree with those given, and have r at h or after
abbrev pub CanBeFrom : List Bound → (ℕ → Option ℤ) → ℕ → ℤ → Type 0
CanBeFrom bounds given r h = (t : ℕ → ℤ) × Agrees given t × Meets bounds t × (h ≤ℤ t r)

-- d is the greatest date of r over all dates that meet the bounds and agree with those given, and None where there is no greatest
abbrev pub IsLatest : List Bound → (ℕ → Option ℤ) → ℕ → Option ℤ → Type 0
IsLatest bounds given r (Some d) =
    ((t : ℕ → ℤ) → Agrees given t → Meets bounds t → t r ≤ℤ d) × (t : ℕ → ℤ) × Agrees given t × Meets bounds t × (t r ≡ d)
IsLatest bounds given r None = (h : ℤ) → CanBeFrom bounds given r h

-- d is the least date of r over all dates that meet the bounds and agree with those given, and None where there is no least
abbrev pub IsSoonest : List Bound → (ℕ → Option ℤ) → ℕ → Option ℤ → Type 0
IsSoonest bounds given r (Some d) =
    ((t : ℕ → ℤ) → Agrees given t → Meets bounds t → d ≤ℤ t r) × (t : ℕ → ℤ) × Agrees given t × Meets bounds t × (t r ≡ d)
IsSoonest bounds given r None = (h : ℤ) → (t : ℕ → ℤ) × Agrees given t × Meets bounds t × (t r ≤ℤ h)

-- each asked point by itself can be at h or after, so all of them can at once
abbrev pub JointDemandHolds : Type 0
JointDemandHolds =
    (bounds : List Bound) (n : ℕ) (given : ℕ → Option ℤ) (asked : ℕ → Bool) (h : ℤ) →
    MeetsInPart bounds given → ((r : ℕ) → r < n → IsTrue (asked r) → CanBeFrom bounds given r h) →
    (t : ℕ → ℤ) × Agrees given t × Meets bounds t × ((r : ℕ) → r < n → IsTrue (asked r) → h ≤ℤ t r)

-- ---- by the least bounds

-- the least of f 0 up to f (n - 1), where there is one
abbrev pub least_of : (ℕ → Option ℤ) → ℕ → Option ℤ
least_of f zero = None
least_of f (suc n) = lesser (f n) (least_of f n)

-- the greater of two numbers, where there are both
abbrev pub greater_of : Option ℤ → Option ℤ → Option ℤ
greater_of None b = b
greater_of (Some x) None = Some x
greater_of (Some x) (Some y) = Some (int_max x y)

-- the greatest of f 0 up to f (n - 1), where there is one
abbrev pub greatest_of : (ℕ → Option ℤ) → ℕ → Option ℤ
greatest_of f zero = None
greatest_of f (suc n) = greater_of (f n) (greatest_of f n)

-- a given date x of one point, and the least bound a from it to another
abbrev pub after : Option ℤ → Option ℤ → Option ℤ
after None a = None
after (Some x) None = None
after (Some x) (Some a) = Some (x +ℤ a)

-- a given date x of one point, and the least bound a to it from another
abbrev pub before : Option ℤ → Option ℤ → Option ℤ
before None a = None
before (Some x) None = None
before (Some x) (Some a) = Some (x -ℤ a)

-- the date of r cannot be later: the least of the given dates with the least bounds from them
abbrev pub latest : ℕ → (ℕ → ℕ → Option ℤ) → (ℕ → Option ℤ) → ℕ → Option ℤ
latest n most given r = least_of (λ p. after (given p) (most p r)) n

-- the date of r cannot be earlier: the greatest of the given dates less the least bounds to them
abbrev pub soonest : ℕ → (ℕ → ℕ → Option ℤ) → (ℕ → Option ℤ) → ℕ → Option ℤ
soonest n most given r = greatest_of (λ p. before (given p) (most r p)) n

-- the least bounds give the greatest and the least date of each point
abbrev pub DateWindowsAreExact : Type 0
DateWindowsAreExact =
    (bounds : List Bound) (n : ℕ) (most : ℕ → ℕ → Option ℤ) (given : ℕ → Option ℤ) →
    IsWithin n bounds → IsConsistent bounds → IsMinimal bounds n most → ((p : ℕ) → IfSome (given p) (λ _. p < n)) → IsPairwiseWithin most given →
    (r : ℕ) → r < n → IsLatest bounds given r (latest n most given r) × IsSoonest bounds given r (soonest n most given r)

-- the given dates, and the date d of e
abbrev pub given_also : (ℕ → Option ℤ) → ℕ → ℤ → ℕ → Option ℤ
given_also given e d p = if p == e then Some d else given p
