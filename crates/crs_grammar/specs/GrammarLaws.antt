-- Laws about the definitions.
use Rattle.std.specs.Prelude.{◌≡◌, ◌<◌, true, Bool, List, Some}
use Rattle.std.specs.Int.RustNames.{unsigned_abs}
use Rattle.std.specs.List.{AllByRecursion}
use Rattle.crs_base.specs.Symbols.{is_symbol}
use Rattle.crs_base.specs.Tokens.{Token, tokens_of, is_model_mark}
use Rattle.crs_grammar.specs.Canon.{statement_text}
use Rattle.crs_grammar.specs.Statements.{Statement, is_inside}
use Rattle.crs_grammar.specs.Forms.{Part, Symbol, Number, Integer, Missing, Means, form_of}
use Rattle.crs_grammar.specs.TokenReading.{statement_of}

-- what is read from tokens is what they mean
abbrev pub ReadIsMeant : Type 0
ReadIsMeant = (inside : Bool) (tokens : List Token) (s : Statement) → statement_of inside tokens ≡ Some s → Means inside tokens s

-- what tokens mean is read from them
abbrev pub MeantIsRead : Type 0
MeantIsRead = (inside : Bool) (tokens : List Token) (s : Statement) → Means inside tokens s → statement_of inside tokens ≡ Some s

-- a part that can be written: a symbol, a number of at most 19 digits, and no empty list
abbrev pub IsWritable : Part → Type 0
IsWritable (Symbol s) = is_symbol s ≡ true
IsWritable (Number n) = n < 10000000000000000000
IsWritable (Integer z) = unsigned_abs z < 10000000000000000000
IsWritable Missing = ⊥
IsWritable _ = Unit {0}

-- the canonical text of a statement is read as that statement
abbrev pub CanonicalIsRead : Type 0
CanonicalIsRead =
    (s : Statement) → AllByRecursion IsWritable (form_of s)
    → (ts : List Token) × (tokens_of is_model_mark (statement_text s) ≡ Some ts) × (statement_of (is_inside s) ts ≡ Some s)
