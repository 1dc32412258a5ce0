-- The claims of an output: the lines whose second word is `at`.
use Rattle.std.specs.Prelude.{ℕ, ◌^◌, nat_lt, not, ◌==◌, ◌&&◌, ◌||◌, Bool, true, false, List, [], ◌∷◌, Option, Some, None, codes, if◌then◌else◌}
use Rattle.std.specs.List.{slice_split, list_any}
use Rattle.std.specs.Option.{option_and_then, option_map, option_or}
use Rattle.std.specs.Str.{bytes_eq}
use Rattle.crs_base.specs.Lines.{Line, bytes_of, is_blank, is_long}
use Rattle.crs_base.specs.Numbers.{number_of}
use Rattle.crs_base.specs.Symbols.{is_symbol}
use Rattle.crs_model.specs.declared.recognition.Mark.{Mark}
use Rattle.crs_model.specs.declared.recognition.Mark.TheVariants.{Clock, Finish}

-- what a claim says: a chronicle's name, a mark, and arrival numbers
pub record Claim : Type 0 where
  pub name : List ℕ
  pub mark : Mark
  pub numbers : List ℕ

-- what a line is: no claim, a claim that lacks the form of one, or a claim
pub data Said : Type 0 where
  Other : Said
  Formless : Said
  Claims : Claim → Said

-- a byte inside a word
abbrev pub is_inner : ℕ → Bool
is_inner b = not (is_blank b)

-- the words that single blanks part
abbrev pub words_of : List ℕ → List (List ℕ)
words_of bytes = slice_split is_blank bytes

-- the second word is `at`
abbrev pub is_claim : List (List ℕ) → Bool
is_claim [] = false
is_claim (name ∷ []) = false
is_claim (name ∷ word ∷ words) = bytes_eq word (codes "at")

-- the number of 1 to 19 digits, where it is below the limit
abbrev pub below : ℕ → ℕ → Option ℕ
below limit n = if nat_lt n limit then Some n else None

abbrev pub number_below : ℕ → List ℕ → Option ℕ
number_below limit word = option_and_then (below limit) (number_of word)

-- `end`, or the number of a clock
abbrev pub mark_of : List ℕ → Option Mark
mark_of word = if bytes_eq word (codes "end") then Some Finish else option_map Clock (number_below (2 ^ 40) word)

-- the words behind the last `cites`
abbrev pub behind_cites : List (List ℕ) → Option (List (List ℕ))
behind_cites [] = None
behind_cites (word ∷ words) = option_or (behind_cites words) (if bytes_eq word (codes "cites") then Some words else None)

abbrev pub put_first : Option ℕ → Option (List ℕ) → Option (List ℕ)
put_first None ns = None
put_first (Some n) None = None
put_first (Some n) (Some ns) = Some (n ∷ ns)

-- the arrival numbers that the words are
abbrev pub numbers_of : List (List ℕ) → Option (List ℕ)
numbers_of [] = Some []
numbers_of (word ∷ words) = put_first (number_below (2 ^ 32) word) (numbers_of words)

-- one or more
abbrev pub some_numbers : List (List ℕ) → Option (List ℕ)
some_numbers [] = None
some_numbers (word ∷ words) = numbers_of (word ∷ words)

abbrev pub claim_with : List ℕ → Option Mark → Option (List ℕ) → Option Claim
claim_with name None numbers = None
claim_with name (Some mark) None = None
claim_with name (Some mark) (Some numbers) = Some (record { name = name; mark = mark; numbers = numbers })

abbrev pub is_empty : List ℕ → Bool
is_empty [] = true
is_empty (b ∷ bs) = false

abbrev pub has_empty : List (List ℕ) → Bool
has_empty words = list_any is_empty words

-- a name, `at`, a mark, any further words, `cites`, and one or more numbers
abbrev pub claim_in : List (List ℕ) → Option Claim
claim_in [] = None
claim_in (name ∷ []) = None
claim_in (name ∷ word ∷ []) = None
claim_in (name ∷ word ∷ mark ∷ further) =
    if is_symbol name && not (has_empty (name ∷ word ∷ mark ∷ further))
    then claim_with name (mark_of mark) (option_and_then some_numbers (behind_cites further))
    else None

abbrev pub said_as : Option Claim → Said
said_as None = Formless
said_as (Some claim) = Claims claim

abbrev pub is_tab : ℕ → Bool
is_tab b = b == 9

-- a claim has no tab, and at most 4096 bytes
abbrev pub is_unfit : Line → Bool
is_unfit l = is_long l || list_any is_tab (bytes_of l)

abbrev pub said_of : Line → Said
said_of l =
    if is_claim (words_of (bytes_of l))
    then (if is_unfit l then Formless else said_as (claim_in (words_of (bytes_of l))))
    else Other
