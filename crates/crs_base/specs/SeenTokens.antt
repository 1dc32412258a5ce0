-- What the program's tokens are, as places in a line.
use Rattle.std.specs.Prelude.{◌≡◌, ℕ, Bool, true, List, map, take, drop}
use Rattle.std.specs.List.{AllByRecursion, list_all}
use Rattle.crs_base.specs.Symbols.{is_symbol_byte}
use Rattle.crs_base.specs.declared.tokens.Token.{Token as CodeToken}
use Rattle.crs_base.specs.declared.tokens.Token.TheVariants.{Word as CodeWord, Mark as CodeMark}
use Rattle.crs_base.specs.declared.tokens.Marks.{Marks}
use Rattle.crs_base.specs.declared.tokens.Marks.TheVariants.{Log, Model}
use Rattle.crs_base.specs.Tokens.{Token, Word, Mark, is_log_mark, is_model_mark}

-- the first bytes of the marks of a kind of text
abbrev pub marks_of : Marks → ℕ → Bool
marks_of Log = is_log_mark
marks_of Model = is_model_mark

-- the bytes of a line from a place on
abbrev pub word_at : List ℕ → ℕ → ℕ → List ℕ
word_at line start len = take len (drop start line)

abbrev pub token_of : List ℕ → CodeToken → Token
token_of line (CodeWord start len) = Word (word_at line start len)
token_of line (CodeMark m) = Mark m

abbrev pub tokens_seen : List ℕ → List CodeToken → List Token
tokens_seen line ts = map (token_of line) ts

-- a word's bytes are symbol bytes
abbrev pub IsWordIn : List ℕ → CodeToken → Type 0
IsWordIn line (CodeWord start len) = list_all is_symbol_byte (word_at line start len) ≡ true
IsWordIn line (CodeMark m) = Unit {0}

-- the same of each token
abbrev pub AreWordsIn : List ℕ → List CodeToken → Type 0
AreWordsIn line ts = AllByRecursion (IsWordIn line) ts
