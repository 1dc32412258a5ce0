-- The lines of a text.
use Rattle.std.specs.Prelude.{ℕ, not, ◌==◌, nat_lt, ◌||◌, Bool, true, false, cond, List, [], ◌∷◌, length, if◌then◌else◌}
use Rattle.std.specs.List.{list_all}
use Rattle.std.specs.Str.Lines.{strip_carriage_return}

-- the bytes before the line feed or the end, and whether a line feed ends it
pub record Line : Type 0 where
  pub raw : List ℕ
  pub ended : Bool

abbrev pub is_no_feed : ℕ → Bool
is_no_feed b = not (b == 10)

-- no line feed stands in them
abbrev pub is_part : List ℕ → Bool
is_part bytes = list_all is_no_feed bytes

-- a byte in front of the first line
abbrev pub onto : ℕ → List Line → List Line
onto b [] = record { raw = b ∷ []; ended = false } ∷ []
onto b (l ∷ ls) = record { raw = b ∷ l.raw; ended = l.ended } ∷ ls

-- The parts cut after each line feed. A last part that isn't empty and lacks a line feed is a line too.
abbrev pub lines_of : List ℕ → List Line
lines_of [] = []
lines_of (b ∷ bs) = cond (b == 10) (record { raw = []; ended = true } ∷ lines_of bs) (onto b (lines_of bs))

-- less one carriage return that stands right before the line feed
abbrev pub bytes_of : Line → List ℕ
bytes_of l = if l.ended then strip_carriage_return l.raw else l.raw

-- more than `limit` bytes before the line feed or the end
abbrev pub is_longer : ℕ → Line → Bool
is_longer limit l = nat_lt limit (length l.raw)

-- the length of the longest line that isn't long
abbrev pub line_limit : ℕ
line_limit = 4096

abbrev pub is_long : Line → Bool
is_long l = is_longer line_limit l

-- a space or a tab
abbrev pub is_blank : ℕ → Bool
is_blank b = (b == 32) || (b == 9)

-- nothing past the blanks, or a `#` first
abbrev pub is_passed_over : List ℕ → Bool
is_passed_over [] = true
is_passed_over (b ∷ bs) = cond (is_blank b) (is_passed_over bs) (b == 35)
