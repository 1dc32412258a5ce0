-- What stands from a place of a line on, as its parts are read one after the other.
use Rattle.std.specs.Prelude.{◌≡◌, ◌<◌, ◌≤◌, ◌+◌, ℕ, Bool, true, not, ◌&&◌, ◌==◌, List, [], ◌∷◌, map, drop, length, Option, Some, option_map}
use Rattle.crs_base.specs.Symbols.{is_symbol, is_symbol_byte}
use Rattle.crs_base.specs.Lines.{is_blank}
use Rattle.crs_base.specs.Tokens.{Token, Word, Mark, tokens_of, is_log_mark}
use Rattle.crs_log.specs.declared.items.Span.{Span}
use Rattle.crs_log.specs.Items.{AreSymbols, IsChange, args_tokens, change_tokens}
use Rattle.crs_log.specs.SeenItems.{text_of, change_in}

abbrev pub tokens_from : List ℕ → ℕ → Option (List Token)
tokens_from line at = tokens_of is_log_mark (drop at line)

-- a mark of a log, which is of one byte
abbrev pub is_plain_mark : ℕ → Bool
is_plain_mark b = is_log_mark b && not (is_blank b) && not (is_symbol_byte b) && not (b == 33)

-- the token stands behind the blanks at a place, and ends at another
pub record Stands (line : List ℕ) (at : ℕ) (token : Token) (end : ℕ) : Type 0 where
  pub tokens : tokens_from line at ≡ option_map (λ ts. token ∷ ts) (tokens_from line end)
  pub onward : at < end
  pub within : end ≤ length line

-- a symbol stands there
pub record IsSymbolAt (line : List ℕ) (at : ℕ) (span : Span) : Type 0 where
  pub stands : Stands line at (Word (text_of line span)) (span.start + span.len)
  pub symbol : is_symbol (text_of line span) ≡ true

-- the arguments of an event stand there, or none
pub record AreArgumentsAt (line : List ℕ) (tokens : Option (List Token)) (args : List Span) (end : ℕ) : Type 0 where
  pub tokens_are : tokens ≡ option_map (args_tokens (map (text_of line) args)) (tokens_from line end)
  pub symbols : AreSymbols (map (text_of line) args)
  pub within : end ≤ length line

-- a change stands there and ends the line, or nothing does
pub record IsChangeOf (line : List ℕ) (tokens : Option (List Token)) (change : Option (Span × Span)) : Type 0 where
  pub tokens_are : tokens ≡ Some (change_tokens (change_in line change))
  pub symbols : IsChange (change_in line change)

-- `SYMBOL ,` for each of some arguments
abbrev pub led_tokens : List (List ℕ) → List Token → List Token
led_tokens [] behind = behind
led_tokens (a ∷ rest) behind = Word a ∷ Mark 44 ∷ led_tokens rest behind
