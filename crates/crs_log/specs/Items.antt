-- Log statements.
use Rattle.std.specs.Prelude.{◌≡◌, ℕ, true, cond, List, [], ◌∷◌, Option, Some, None, option_and_then, codes, nat_lt}
use Rattle.std.specs.List.{AllByRecursion}
use Rattle.crs_base.specs.Symbols.{is_symbol}
use Rattle.crs_base.specs.Tokens.{Token, Word, Mark, tokens_of, is_log_mark}
use Rattle.crs_base.specs.Numbers.{number_of}

-- an old and a new value
abbrev pub Change : Type 0
Change = List ℕ × List ℕ

pub record Event : Type 0 where
  pub date : ℕ
  pub name : List ℕ
  pub args : List (List ℕ)
  pub change : Option Change

pub data Item : Type 0 where
  Delay : ℕ → Item
  Clock : ℕ → Item
  Finish : Item
  Happens : Event → Item

-- a number of a log is at most 2^40 - 1
abbrev pub in_dates : ℕ → Option ℕ
in_dates n = cond (nat_lt n 1099511627776) (Some n) None

abbrev pub log_number_of : List ℕ → Option ℕ
log_number_of word = option_and_then in_dates (number_of word)

-- `, SYMBOL ..` and `]`
abbrev pub more_tokens : List (List ℕ) → List Token → List Token
more_tokens [] behind = Mark 93 ∷ behind
more_tokens (a ∷ rest) behind = Mark 44 ∷ Word a ∷ more_tokens rest behind

-- `[ SYMBOL , .. ]`, where there are arguments
abbrev pub args_tokens : List (List ℕ) → List Token → List Token
args_tokens [] behind = behind
args_tokens (a ∷ rest) behind = Mark 91 ∷ Word a ∷ more_tokens rest behind

-- `: ( SYMBOL , SYMBOL )`, where there is a change
abbrev pub change_tokens : Option Change → List Token
change_tokens None = []
change_tokens (Some c) = Mark 58 ∷ Mark 40 ∷ Word c.0 ∷ Mark 44 ∷ Word c.1 ∷ Mark 41 ∷ []

abbrev pub AreSymbols : List (List ℕ) → Type 0
AreSymbols texts = AllByRecursion (λ t. is_symbol t ≡ true) texts

abbrev pub IsChange : Option Change → Type 0
IsChange None = Unit {0}
IsChange (Some c) = (is_symbol c.0 ≡ true) × (is_symbol c.1 ≡ true)

-- the event is written by these tokens
pub record IsEvent (ts : List Token) (e : Event) : Type 0 where
  pub date : List ℕ
  pub dated : log_number_of date ≡ Some e.date
  pub written : ts ≡ Word date ∷ Word e.name ∷ args_tokens e.args (change_tokens e.change)
  pub name : is_symbol e.name ≡ true
  pub args : AreSymbols e.args
  pub change : IsChange e.change

-- one case for each form of statement
abbrev pub IsStatement : List Token → Item → Type 0
IsStatement ts (Delay n) = (w : List ℕ) × (ts ≡ Word (codes "delay") ∷ Word w ∷ []) × (log_number_of w ≡ Some n)
IsStatement ts (Clock n) = (w : List ℕ) × (ts ≡ Word (codes "clock") ∷ Word w ∷ []) × (log_number_of w ≡ Some n)
IsStatement ts Finish = ts ≡ Word (codes "end") ∷ []
IsStatement ts (Happens e) = IsEvent ts e

-- the line is the item
abbrev pub IsItem : List ℕ → Item → Type 0
IsItem line item = (ts : List Token) × (tokens_of is_log_mark line ≡ Some ts) × IsStatement ts item
