-- Texts as numbers.
use Rattle.std.specs.Prelude.{ℕ, ◌+◌, ◌*◌, List, [], ◌∷◌}

-- the number whose last digits, to the base 256, are these bytes
abbrev pub tag_on : ℕ → List ℕ → ℕ
tag_on n [] = n
tag_on n (b ∷ bs) = tag_on (256 * n + b) bs
