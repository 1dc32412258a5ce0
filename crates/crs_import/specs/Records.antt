-- What a record of a table says in a log.
use Rattle.std.specs.Prelude.{ℕ, ◌==◌, nat_lt, nat_le, ◌&&◌, Bool, true, false, if◌then◌else◌, List, [], ◌∷◌, ◌++◌, length, Option, Some, None, Result, Ok, Err, codes, decimal, bytes_eq}
use Rattle.std.specs.List.{list_all}
use Rattle.crs_base.specs.Numbers.{number_of}
use Rattle.crs_base.specs.Symbols.{is_symbol}
use Rattle.crs_base.specs.Entry.{canonical}
use Rattle.crs_import.specs.declared.refusals.RowWord.{RowWord}
use Rattle.crs_import.specs.declared.refusals.RowWord.TheVariants.{What, Date, Name, Args, Change, Extra}

-- the six fields of a record
pub record Fields : Type 0 where
  pub what : List ℕ
  pub date : List ℕ
  pub name : List ℕ
  pub args : List ℕ
  pub old : List ℕ
  pub new : List ℕ

-- a line of a log
pub data Line : Type 0 where
  Event : (date : ℕ) (name : List ℕ) (args : List (List ℕ)) (change : Option (List ℕ × List ℕ)) → Line
  Clock : ℕ → Line
  Delay : ℕ → Line
  End : Line

-- its bytes, with the line feed
abbrev pub line_text : Line → List ℕ
line_text (Event date name args change) = decimal date ++ codes " " ++ canonical name args change ++ codes "\n"
line_text (Clock date) = codes "clock " ++ decimal date ++ codes "\n"
line_text (Delay date) = codes "delay " ++ decimal date ++ codes "\n"
line_text End = codes "end\n"

-- a number of at most 2^40 - 1
abbrev pub below_limit : Option ℕ → Option ℕ
below_limit None = None
below_limit (Some n) = if nat_lt n 1099511627776 then Some n else None

abbrev pub date_of : List ℕ → Option ℕ
date_of field = below_limit (number_of field)

-- a byte in front of the first part
abbrev pub onto_first : ℕ → List (List ℕ) → List (List ℕ)
onto_first b [] = (b ∷ []) ∷ []
onto_first b (p ∷ ps) = (b ∷ p) ∷ ps

-- the parts cut at each `;`
abbrev pub parts : List ℕ → List (List ℕ)
parts [] = [] ∷ []
parts (b ∷ bs) = if b == 59 then [] ∷ parts bs else onto_first b (parts bs)

-- a comma for a `;`
abbrev pub with_comma : ℕ → ℕ
with_comma b = if b == 59 then 44 else b

abbrev pub is_empty : List ℕ → Bool
is_empty [] = true
is_empty (b ∷ bs) = false

-- the arguments of a field: none where it is empty, and else its parts
abbrev pub args_of : List ℕ → List (List ℕ)
args_of [] = []
args_of (b ∷ bs) = parts (b ∷ bs)

-- at most 8 symbols
abbrev pub are_args : List (List ℕ) → Bool
are_args args = nat_le (length args) 8 && list_all is_symbol args

-- what comes where the test holds, and else the word
abbrev pub or_word : RowWord → Bool → Result Line RowWord → Result Line RowWord
or_word word holds line = if holds then line else Err word

abbrev pub dated : Option ℕ → (ℕ → Result Line RowWord) → Result Line RowWord
dated None line = Err Date
dated (Some date) line = line date

-- the arguments may be none
abbrev pub named : Fields → Result Line RowWord → Result Line RowWord
named f line = or_word Name (is_symbol f.name) (or_word Args (are_args (args_of f.args)) line)

abbrev pub event_line : Fields → Result Line RowWord
event_line f =
    dated (date_of f.date) (λ date. named f
    (or_word Extra (is_empty f.old && is_empty f.new) (Ok (Event date f.name (args_of f.args) None))))

abbrev pub change_line : Fields → Result Line RowWord
change_line f =
    dated (date_of f.date) (λ date. named f
    (or_word Change (is_symbol f.old && is_symbol f.new) (Ok (Event date f.name (args_of f.args) (Some (f.old, f.new))))))

-- the name and what stands behind it are empty
abbrev pub has_no_name : Fields → Bool
has_no_name f = is_empty f.name && is_empty f.args && is_empty f.old && is_empty f.new

abbrev pub clock_line : Fields → Result Line RowWord
clock_line f = dated (date_of f.date) (λ date. or_word Extra (has_no_name f) (Ok (Clock date)))

abbrev pub delay_line : Fields → Result Line RowWord
delay_line f = dated (date_of f.date) (λ date. or_word Extra (has_no_name f) (Ok (Delay date)))

abbrev pub end_line : Fields → Result Line RowWord
end_line f = or_word Extra (is_empty f.date && has_no_name f) (Ok End)

-- the line that a record stands for, or what is wrong with it
abbrev pub line_of : Fields → Result Line RowWord
line_of f =
    if bytes_eq f.what (codes "event") then event_line f
    else (if bytes_eq f.what (codes "change") then change_line f
    else (if bytes_eq f.what (codes "clock") then clock_line f
    else (if bytes_eq f.what (codes "delay") then delay_line f
    else (if bytes_eq f.what (codes "end") then end_line f
    else Err What))))
