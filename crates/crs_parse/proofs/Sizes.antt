-- Lengths of lists that are seen through a function, and the tests on them.
use Rattle.std.proofs.Common.{◌≡◌, List, map, length}
use Rattle.std.proofs.lemmas.List.{length-map}

module _ {A B : Type 0} where
  pub length_seen : (f : A → B) (xs : List A) → length (map f xs) ≡ length xs
  length_seen f xs = length-map xs f
