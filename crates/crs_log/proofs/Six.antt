-- A list of six tokens.
use Rattle.std.proofs.Common.{◌≡◌, ◌≤◌, ◌<◌, ℕ, Bool, cond, ◌&&◌, List, [], ◌∷◌, length, get_or, None, refl, arith}
use Rattle.crs_base.specs.declared.tokens.Token.{Token as CodeToken}
use Rattle.crs_base.specs.declared.tokens.Token.TheVariants.{Word as CodeWord}
use Rattle.crs_log.specs.ItemOf.{is_mark, symbol_of, pair_of, change_of}
use Rattle.crs_base.specs.SeenTokens.{token_of, tokens_seen}
use Rattle.crs_base.specs.Tokens.{Token}

abbrev pub token_at : List ℕ → List CodeToken → ℕ → Token
token_at line xs i = token_of line (get_or xs i (CodeWord 0 0))

abbrev pub marks_of : List ℕ → List CodeToken → Bool
marks_of line xs = is_mark 58 (token_at line xs 0) && is_mark 40 (token_at line xs 1) && is_mark 44 (token_at line xs 3) && is_mark 41 (token_at line xs 5)

pub six_change : (line : List ℕ) (xs : List CodeToken) → 6 ≤ length xs → length xs < 7
    → change_of (tokens_seen line xs) ≡ cond (marks_of line xs) (pair_of (symbol_of (token_at line xs 2)) (symbol_of (token_at line xs 4))) None
six_change line [] h k = absurd (omega (arith, h))
six_change line (a ∷ []) h k = absurd (omega (arith, h))
six_change line (a ∷ b ∷ []) h k = absurd (omega (arith, h))
six_change line (a ∷ b ∷ o ∷ []) h k = absurd (omega (arith, h))
six_change line (a ∷ b ∷ o ∷ c ∷ []) h k = absurd (omega (arith, h))
six_change line (a ∷ b ∷ o ∷ c ∷ n ∷ []) h k = absurd (omega (arith, h))
six_change line (a ∷ b ∷ o ∷ c ∷ n ∷ e ∷ []) h k = refl
six_change line (a ∷ b ∷ o ∷ c ∷ n ∷ e ∷ f ∷ xs) h k = absurd (omega (arith, k))
