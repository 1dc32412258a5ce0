-- The item that a line is.
use Rattle.std.specs.Prelude.{ℕ, Bool, false, cond, List, [], ◌∷◌, ◌++◌, Option, Some, None, option_map, option_and_then, codes, bytes_eq, ◌&&◌, ◌==◌}
use Rattle.crs_base.specs.Symbols.{is_symbol}
use Rattle.crs_base.specs.Lines.{is_passed_over}
use Rattle.crs_base.specs.Tokens.{Token, Word, Mark, tokens_of, is_log_mark}
use Rattle.crs_log.specs.Items.{Change, Item, Delay, Clock, Finish, Happens, log_number_of}

abbrev pub symbol_of : Token → Option (List ℕ)
symbol_of (Word w) = cond (is_symbol w) (Some w) None
symbol_of (Mark m) = None

abbrev pub is_mark : ℕ → Token → Bool
is_mark m (Word w) = false
is_mark m (Mark n) = n == m

-- what stands behind the arguments
pub record Parted : Type 0 where
  pub args : List (List ℕ)
  pub behind : List Token

abbrev pub with_arg : List ℕ → Parted → Parted
with_arg a p = record { args = a ∷ p.args; behind = p.behind }

-- behind the first argument
abbrev pub more_of : List Token → Option Parted
more_of [] = None
more_of (t ∷ []) = cond (is_mark 93 t) (Some (record { args = []; behind = [] })) None
more_of (t ∷ u ∷ ts) = cond (is_mark 93 t) (Some (record { args = []; behind = u ∷ ts }))
    (cond (is_mark 44 t) (option_and_then (λ a. option_map (with_arg a) (more_of ts)) (symbol_of u)) None)

abbrev pub args_of : List Token → Option Parted
args_of [] = Some (record { args = []; behind = [] })
args_of (t ∷ []) = Some (record { args = []; behind = t ∷ [] })
args_of (t ∷ u ∷ ts) = cond (is_mark 91 t) (option_and_then (λ a. option_map (with_arg a) (more_of ts)) (symbol_of u)) (Some (record { args = []; behind = t ∷ u ∷ ts }))

abbrev pub pair_of : Option (List ℕ) → Option (List ℕ) → Option (Option Change)
pair_of (Some o) (Some n) = Some (Some (o, n))
pair_of (Some o) None = None
pair_of None n = None

abbrev pub change_of : List Token → Option (Option Change)
change_of [] = Some None
change_of (a ∷ b ∷ o ∷ c ∷ n ∷ d ∷ []) = cond (is_mark 58 a && is_mark 40 b && is_mark 44 c && is_mark 41 d) (pair_of (symbol_of o) (symbol_of n)) None
change_of _ = None

abbrev pub event_with : ℕ → List ℕ → Parted → Option Item
event_with date name p = option_map (λ c. Happens (record { date = date; name = name; args = p.args; change = c })) (change_of p.behind)

abbrev pub event_of : List ℕ → Token → List Token → Option Item
event_of a t ts = option_and_then (λ date. option_and_then (λ name. option_and_then (event_with date name) (args_of ts)) (symbol_of t)) (log_number_of a)

abbrev pub number_in : Token → List Token → Option ℕ
number_in (Word w) [] = log_number_of w
number_in (Word w) (t ∷ ts) = None
number_in (Mark m) ts = None

abbrev pub statement_of : List Token → Option Item
statement_of [] = None
statement_of (Mark m ∷ ts) = None
statement_of (Word a ∷ []) = cond (bytes_eq a (codes "end")) (Some Finish) None
statement_of (Word a ∷ t ∷ ts) = cond (bytes_eq a (codes "delay")) (option_map Delay (number_in t ts))
    (cond (bytes_eq a (codes "clock")) (option_map Clock (number_in t ts)) (event_of a t ts))

abbrev pub item_of : List ℕ → Option Item
item_of line = option_and_then statement_of (tokens_of is_log_mark line)

-- what a line that isn't long is: blank or a comment, an item, or neither
pub data What : Type 0 where
  Empty : What
  Is : Item → What
  Faulty : What

abbrev pub what_is : Option Item → What
what_is None = Faulty
what_is (Some item) = Is item

abbrev pub what_of : List ℕ → What
what_of line = cond (is_passed_over line) Empty (what_is (item_of line))

-- behind arguments that were read before
abbrev pub led_by : List (List ℕ) → Parted → Parted
led_by args p = record { args = args ++ p.args; behind = p.behind }
