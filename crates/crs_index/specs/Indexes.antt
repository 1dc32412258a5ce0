-- Indexes, as contracts see them: numbered buckets of handles, and for each key that has one the
-- number of its bucket.
use Rattle.std.specs.Prelude.{◌≡◌, ◌≢◌, ◌⊎◌, ℕ, ◌<◌, List, [], ◌∷◌, ◌++◌, length, filter, get_or}
use Rattle.std.specs.List.{AllByRecursion}
use Rattle.std.specs.declared.option.Option.{Option}
use Rattle.std.specs.declared.option.Option.TheVariants.{None, Some}
use Rattle.crs_agenda.specs.declared.timed.Handle.{Handle}
use Rattle.crs_agenda.specs.Freshness.{is_fresh}
use Rattle.crs_index.specs.declared.key.Key.{Key}
use Rattle.crs_index.specs.KeyNumbers.{NumbersState, number_in}

-- an index, as contracts see it
pub record IndexState : Type 0 where
  pub numbers : NumbersState
  pub buckets : List (List Handle)

-- the number of the key's bucket, where it has one
abbrev pub number_of : IndexState → Key → Option ℕ
number_of s k = number_in s.numbers k

-- the handles of the bucket with this number
abbrev pub bucket_at : List (List Handle) → ℕ → List Handle
bucket_at buckets n = get_or buckets n []

-- the handles of the bucket, where there is one
abbrev pub handles_at : List (List Handle) → Option ℕ → List Handle
handles_at buckets None = []
handles_at buckets (Some n) = bucket_at buckets n

-- the handles under the key
abbrev pub bucket_of : IndexState → Key → List Handle
bucket_of s k = handles_at s.buckets (number_of s k)

-- each number is a bucket's, and two keys have two buckets
pub record IsSound (s : IndexState) : Type 0 where
  pub below : (k : Key) (n : ℕ) → number_of s k ≡ Some n → n < length s.buckets
  pub apart : (j k : Key) (n : ℕ) → number_of s j ≡ Some n → number_of s k ≡ Some n → j ≡ k

-- every key has the handles that it had
abbrev pub IsSame : IndexState → IndexState → Type 0
IsSame old new = (k : Key) → bucket_of new k ≡ bucket_of old k

-- the handle is new at the end of the key's bucket, and every other key has what it had
pub record Puts (old new : IndexState) (key : Key) (handle : Handle) : Type 0 where
  pub here : bucket_of new key ≡ bucket_of old key ++ handle ∷ []
  pub others : (k : Key) → key ≢ k → bucket_of new k ≡ bucket_of old k

-- the bucket with this number has exactly its fresh handles, in their order; every other bucket is
-- as it was, and every key has the number that it had
pub record Cleans (old new : IndexState) (number : ℕ) (serials : List ℕ) : Type 0 where
  pub here : bucket_at new.buckets number ≡ filter (is_fresh serials) (bucket_at old.buckets number)
  pub others : (n : ℕ) → n ≢ number → bucket_at new.buckets n ≡ bucket_at old.buckets n
  pub count : length new.buckets ≡ length old.buckets
  pub numbers : (k : Key) → number_of new k ≡ number_of old k
  pub own_key : (k : Key) → number_of old k ≡ Some number → bucket_of new k ≡ filter (is_fresh serials) (bucket_of old k)
  pub other_keys : (k : Key) → number_of old k ≢ Some number → bucket_of new k ≡ bucket_of old k

-- every key has exactly its fresh handles, in their order
abbrev pub Sweeps : IndexState → IndexState → List ℕ → Type 0
Sweeps old new serials = (k : Key) → bucket_of new k ≡ filter (is_fresh serials) (bucket_of old k)

-- the bucket with this number is empty, and no key has it
pub record IsFree (s : IndexState) (number : ℕ) : Type 0 where
  pub below : number < length s.buckets
  pub empty : bucket_at s.buckets number ≡ []
  pub unnamed : (k : Key) → number_of s k ≢ Some number

-- the numbers are those of free buckets, each once
abbrev pub AreFree : IndexState → List ℕ → Type 0
AreFree s [] = Unit {0}
AreFree s (m ∷ ms) = IsFree s m × AllByRecursion (λ q. q ≢ m) ms × AreFree s ms

-- what the code keeps: the index is sound, and the spare numbers are those of free buckets
pub record IsKept (s : IndexState) (spare : List ℕ) : Type 0 where
  pub sound : IsSound s
  pub free : AreFree s spare

-- the number is a spare one, or that of an empty bucket behind the last
abbrev pub OpensBucket : List (List Handle) → List (List Handle) → List ℕ → List ℕ → ℕ → Type 0
OpensBucket old new spare left number =
    ((spare ≡ left ++ number ∷ []) × (new ≡ old)) ⊎ ((left ≡ spare) × (number ≡ length old) × (new ≡ old ++ [] ∷ []))
