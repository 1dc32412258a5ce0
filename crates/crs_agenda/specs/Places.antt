-- Where a date stands in the rows of a calendar, in digits to the base 32.
use Rattle.std.specs.Prelude.{◌≡◌, ℕ, zero, suc, ◌+◌, ◌*◌, ◌/◌, ◌%◌, ◌^◌, ◌<◌, ◌≤◌, List, [], All, length, slice_index_or}
use Rattle.std.specs.List.{flat_map}
use Rattle.crs_agenda.specs.declared.timed.Timed.{Timed}

-- the date without its last digits, of which there are r
abbrev pub lead : ℕ → ℕ → ℕ
lead zero x = x
lead (suc r) x = lead r x / 32

-- the bucket at this place is the date's: it is of the row of the highest digit in which the date
-- differs from the base, and of the date's digit there
pub record Stands (base at date : ℕ) : Type 0 where
  pub from : base ≤ date
  pub bound : date < 2 ^ 45
  pub digits : lead (at / 32) date ≡ lead (at / 32) base / 32 * 32 + at % 32
  pub later : 0 < at / 32 → lead (at / 32) base < lead (at / 32) date

-- each pair stands in its bucket
abbrev pub InPlace : ℕ → List (List Timed) → Type 0
InPlace base buckets = (at : ℕ) → All (λ t. Stands base at t.date) (slice_index_or buckets at [])

-- the pairs of all buckets
abbrev pub pairs_of : List (List Timed) → List Timed
pairs_of buckets = flat_map (λ b. b) buckets

-- no bucket before this one has a pair
abbrev pub AreEmptyBefore : ℕ → List (List Timed) → Type 0
AreEmptyBefore end buckets = (at : ℕ) → at < end → slice_index_or buckets at [] ≡ []

-- each pair of the list goes into a bucket before this one
abbrev pub GoBefore : ℕ → ℕ → List Timed → Type 0
GoBefore base end ts = All (λ t. (base ≤ t.date) × (t.date < 2 ^ 45) × ((at : ℕ) → Stands base at t.date → at < end)) ts

-- all pairs of the bucket stand at this place
abbrev pub AreIn : ℕ → ℕ → List Timed → Type 0
AreIn base at ts = All (λ t. Stands base at t.date) ts

-- the pair at this place has the least date
abbrev pub IsEarliest : ℕ → List Timed → Type 0
IsEarliest pick ts = (pick < length ts) × All (λ t. (slice_index_or ts pick t).date ≤ t.date) ts
