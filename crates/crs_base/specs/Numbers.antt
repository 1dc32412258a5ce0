-- Numbers as words of a line.
use Rattle.std.specs.Prelude.{ℕ, ℤ, pos, neg_ℤ, ◌+◌, ◌*◌, ◌-◌, ◌==◌, nat_le, ◌&&◌, Bool, cond, List, [], ◌∷◌, length, Option, Some, None, option_map}
use Rattle.std.specs.List.{list_all}

abbrev pub is_digit : ℕ → Bool
is_digit c = nat_le 48 c && nat_le c 57

-- the number that digits write behind those of n
abbrev pub value_on : ℕ → List ℕ → ℕ
value_on n [] = n
value_on n (c ∷ cs) = value_on (10 * n + (c - 48)) cs

-- that number, where these are digits
abbrev pub number_on : ℕ → List ℕ → Option ℕ
number_on n cs = cond (list_all is_digit cs) (Some (value_on n cs)) None

-- the number of 1 to 19 digits, of which the first may be zeros
abbrev pub number_of : List ℕ → Option ℕ
number_of word = cond (nat_le 1 (length word) && nat_le (length word) 19) (number_on 0 word) None

-- a number, or one with a `-` before its digits
abbrev pub integer_of : List ℕ → Option ℤ
integer_of [] = None
integer_of (c ∷ cs) = cond (c == 45) (option_map (λ n. neg_ℤ (pos n)) (number_of cs)) (option_map pos (number_of (c ∷ cs)))
