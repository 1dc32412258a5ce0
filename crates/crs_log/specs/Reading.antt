-- Lines as they are given, one after the other, where only a limited part of a long one is kept.
use Rattle.std.specs.Prelude.{◌≡◌, ◌≤◌, ◌<◌, ℕ, ◌+◌, ◌-◌, Bool, true, cond, List, [], ◌∷◌, ◌++◌, length, drop, get_or, nat_lt, if◌then◌else◌, Option, Some, None, filter}
use Rattle.std.specs.List.{prefix_len}
use Rattle.crs_base.specs.Lines.{Line, lines_of, bytes_of, is_longer, line_limit, is_no_feed, is_part}

-- what is given for a line, with its number
pub data Given : Type 0 where
  Plain : ℕ → List ℕ → Given
  Long : ℕ → Given

abbrev pub given_line : ℕ → ℕ → Line → Given
given_line limit number l = cond (is_longer limit l) (Long number) (Plain number (bytes_of l))

-- each line, where n lines came before
abbrev pub given_lines : ℕ → ℕ → List Line → List Given
given_lines limit n [] = []
given_lines limit n (l ∷ ls) = given_line limit (n + 1) l ∷ given_lines limit (n + 1) ls

-- the lines of a log as a run meets them: numbered from 1, and of a long one that it is long
abbrev pub numbered : List Line → List Given
numbered lines = given_lines line_limit 0 lines

abbrev pub number_of : Given → ℕ
number_of (Plain n bytes) = n
number_of (Long n) = n

-- the lines of a text
abbrev pub given : ℕ → ℕ → List ℕ → List Given
given limit n text = given_lines limit n (lines_of text)

-- a reader of lines: how many lines were given, the bytes behind them of which a long line's may be missing in part, whether the input ended, and how many bytes were fed
pub record Reader : Type 0 where
  pub limit : ℕ
  pub number : ℕ
  pub rest : List ℕ
  pub finished : Bool
  pub fed : ℕ

-- what is still given, where `more` follows
abbrev pub ahead : Reader → List ℕ → List Given
ahead r more = given r.limit r.number (r.rest ++ more)

-- a reader that stands where `told` were given, of the text `fed` that was fed so far
abbrev pub HasGiven : ℕ → List ℕ → List Given → Reader → Type 0
HasGiven limit fed told r = (more : List ℕ) → given limit 0 (fed ++ more) ≡ told ++ ahead r more

-- where the last part of held bytes begins, of which those from `from` on aren't given yet: right behind a line feed, or where they begin
pub record IsTail (from : ℕ) (held : List ℕ) (tail : ℕ) : Type 0 where
  pub low : from ≤ tail
  pub high : tail ≤ length held
  pub part : is_part (drop tail held) ≡ true
  pub fed : from < tail → get_or held (tail - 1) 0 ≡ 10

-- what is kept of a piece: where more than `limit` bytes of a line are held already, the further bytes of that line are left out
abbrev pub kept : ℕ → List ℕ → ℕ → List ℕ → List ℕ
kept limit held tail piece = if nat_lt limit (length held - tail) then drop (prefix_len is_no_feed piece) piece else piece

-- no whole line is held
abbrev pub HasNoLine : Reader → Type 0
HasNoLine r = ((if r.finished then [] else r.rest) ≡ r.rest) × (is_part r.rest ≡ true)

-- one line is given; nothing follows the end
pub record Gives (old : Reader) (g : Given) (new : Reader) : Type 0 where
  pub limit : new.limit ≡ old.limit
  pub finished : new.finished ≡ old.finished
  pub fed : new.fed ≡ old.fed
  pub shorter : length new.rest < length old.rest
  pub ahead : (more : List ℕ) → (old.finished ≡ true → more ≡ []) → ahead old more ≡ g ∷ ahead new more

-- a line is given, or none is held
abbrev pub Moves : Reader → Option Given → Reader → Type 0
Moves old None new = (new ≡ old) × HasNoLine old
Moves old (Some g) new = Gives old g new

-- the lines that a line feed ends
abbrev pub whole_lines : List ℕ → List Line
whole_lines text = filter (λ l. l.ended) (lines_of text)

-- the bytes behind the last line feed
abbrev pub part_of : List ℕ → List ℕ
part_of [] = []
part_of (b ∷ bs) = cond (is_part (b ∷ bs)) (b ∷ bs) (part_of bs)
