-- Texts that the test of their bytes finds equal are equal.
use Rattle.std.proofs.Common.{◌≡◌, ℕ, true, List, refl}
use Rattle.std.specs.Prelude.{bytes_eq}
use Rattle.std.proofs.lemmas.Slice.Eq.{bytes_eq-Decides}

pub bytes_same : (t u : List ℕ) → bytes_eq t u ≡ true → t ≡ u
bytes_same t u h = (bytes_eq-Decides t u).0 h

pub same_bytes : (t : List ℕ) → bytes_eq t t ≡ true
same_bytes t = (bytes_eq-Decides t t).1 refl
