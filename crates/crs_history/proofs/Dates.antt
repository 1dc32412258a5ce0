-- Dates of entries as whole numbers of either sign.
use Rattle.std.proofs.Common.{◌≡◌, ℕ, ◌≤◌, ◌<◌, true, nat_lt, nat_le, arith}
use Rattle.std.specs.Prelude.{ℤ, pos, negsuc, ◌≤ℤ◌, ◌<ℤ◌}
use Rattle.std.proofs.lemmas.Int.{ints}
use Rattle.std.proofs.lemmas.Bool.Decides.{nat_tests}
use Rattle.crs_history.specs.Dates.{nat_of}

pub before_of : (d : ℕ) (t : ℤ) → pos d <ℤ t → nat_lt d (nat_of t) ≡ true
before_of d (pos n) h = let k : d < n = omega (arith, ints) in grind (arith, nat_tests)
before_of d (negsuc n) h = absurd (omega (arith, ints))

pub of_before : (d : ℕ) (t : ℤ) → nat_lt d (nat_of t) ≡ true → pos d <ℤ t
of_before d (pos n) h = let k : d < n = grind (arith, nat_tests) in omega (arith, ints)
of_before d (negsuc n) h = let k : d < 0 = grind (arith, nat_tests) in absurd (omega arith)

pub since_of : (d : ℕ) (t : ℤ) → t ≤ℤ pos d → nat_le (nat_of t) d ≡ true
since_of d (pos n) h = let k : n ≤ d = omega (arith, ints) in grind (arith, nat_tests)
since_of d (negsuc n) h = grind (arith, nat_tests)

pub of_since : (d : ℕ) (t : ℤ) → nat_le (nat_of t) d ≡ true → t ≤ℤ pos d
of_since d (pos n) h = let k : n ≤ d = grind (arith, nat_tests) in omega (arith, ints)
of_since d (negsuc n) h = omega (arith, ints)

pub nat_before : (d : ℕ) (t : ℤ) → d < nat_of t → pos d <ℤ t
nat_before d t h = of_before d t (grind (arith, nat_tests))

pub before_nat : (d : ℕ) (t : ℤ) → pos d <ℤ t → d < nat_of t
before_nat d t h = let e = before_of d t h in grind (arith, nat_tests)

pub nat_since : (d : ℕ) (t : ℤ) → nat_of t ≤ d → t ≤ℤ pos d
nat_since d t h = of_since d t (grind (arith, nat_tests))
