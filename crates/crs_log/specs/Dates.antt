-- The date with which a line begins, as its digits are read.
use Rattle.std.specs.Prelude.{◌≡◌, ◌≤◌, ◌+◌, ℕ, true, Some, List, length, take, drop}
use Rattle.std.specs.List.{list_all, prefix_len}
use Rattle.crs_base.specs.Numbers.{is_digit, value_on}
use Rattle.crs_base.specs.Symbols.{is_symbol_byte}
use Rattle.crs_log.specs.Items.{log_number_of}

-- up to a place stand digits, at most 19, which write the number
pub record AreDigitsTo (line : List ℕ) (number end : ℕ) : Type 0 where
  pub digits : list_all is_digit (take end line) ≡ true
  pub value : value_on 0 (take end line) ≡ number
  pub word : end + prefix_len is_symbol_byte (drop end line) ≡ prefix_len is_symbol_byte line
  pub few : end ≤ 19
  pub within : end ≤ length line

-- the line begins with a word that ends at a place, and that is the date
pub record IsDateTo (line : List ℕ) (date end : ℕ) : Type 0 where
  pub word : end ≡ prefix_len is_symbol_byte line
  pub dated : log_number_of (take end line) ≡ Some date
  pub within : end ≤ length line
