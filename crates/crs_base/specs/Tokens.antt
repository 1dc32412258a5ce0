-- Words and marks of a line.
use Rattle.std.specs.Prelude.{ℕ, ◌==◌, ◌||◌, Bool, true, false, cond, List, [], ◌∷◌, Option, Some, None, option_map}
use Rattle.crs_base.specs.Symbols.{is_symbol_byte}
use Rattle.crs_base.specs.Lines.{is_blank}

-- a run of symbol bytes, or a mark, which is named by its first byte
pub data Token : Type 0 where
  Word : List ℕ → Token
  Mark : ℕ → Token

-- the marks of a log: [ ] ( ) , :
abbrev pub is_log_mark : ℕ → Bool
is_log_mark b = (b == 91) || (b == 93) || (b == 40) || (b == 41) || (b == 44) || (b == 58)

-- the first bytes of the marks of models: { } ( ) [ ] , : + * ? !=
abbrev pub is_model_mark : ℕ → Bool
is_model_mark b = (b == 123) || (b == 125) || (b == 40) || (b == 41) || (b == 91) || (b == 93) || (b == 44) || (b == 58) || (b == 43) || (b == 42) || (b == 63) || (b == 33)

abbrev pub begins_word : List ℕ → Bool
begins_word [] = false
begins_word (b ∷ bs) = is_symbol_byte b

-- a byte in front of the first word
abbrev pub lengthened : ℕ → List Token → List Token
lengthened b [] = Word (b ∷ []) ∷ []
lengthened b (Word w ∷ ts) = Word (b ∷ w) ∷ ts
lengthened b (Mark m ∷ ts) = Word (b ∷ []) ∷ Mark m ∷ ts

-- Words are maximal runs of symbol bytes. A mark is one byte, but a `!` is the first of the two bytes `!=`:
-- behind it, where half is true, a `=` must stand. A byte that is no blank, symbol byte or mark spoils the line.
abbrev pub tokens_behind : (is_mark : ℕ → Bool) (half : Bool) → List ℕ → Option (List Token)
tokens_behind is_mark half [] = cond half None (Some [])
tokens_behind is_mark true (b ∷ bs) = cond (b == 61) (tokens_behind is_mark false bs) None
tokens_behind is_mark false (b ∷ bs) =
    cond (is_blank b) (tokens_behind is_mark false bs)
    (cond (is_symbol_byte b) (option_map (λ ts. cond (begins_word bs) (lengthened b ts) (Word (b ∷ []) ∷ ts)) (tokens_behind is_mark false bs))
    (cond (is_mark b) (option_map (λ ts. Mark b ∷ ts) (tokens_behind is_mark (b == 33) bs)) None))

-- the words and marks of a line, or none where some byte spoils it
abbrev pub tokens_of : (is_mark : ℕ → Bool) → List ℕ → Option (List Token)
tokens_of is_mark line = tokens_behind is_mark false line

-- what stands behind a `=` in front
abbrev pub behind_equals : List ℕ → Option (List ℕ)
behind_equals [] = None
behind_equals (b ∷ bs) = cond (b == 61) (Some bs) None

-- what stands behind a mark whose first byte is b
abbrev pub behind_mark : ℕ → List ℕ → Option (List ℕ)
behind_mark b bs = cond (b == 33) (behind_equals bs) (Some bs)
