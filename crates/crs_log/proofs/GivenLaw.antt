-- What becomes of a line, from what is given for it.
use Rattle.std.proofs.Common.{◌≡◌, ℕ, Bool, true, false, cond, refl}
use Rattle.crs_base.specs.Lines.{Line, bytes_of, is_long, is_longer, line_limit}
use Rattle.crs_log.specs.ItemOf.{what_of}
use Rattle.crs_log.specs.Reading.{Plain, Long, given_line}
use Rattle.crs_log.specs.Run.{Setting, State, Refused, TooLong, after_what, after_line}

pub given_line_law : (c : Setting) (s : State) (n : ℕ) (l : Line) → after_line c s (given_line line_limit n l)
    ≡ cond (is_long l) (s, Refused TooLong) (after_what c s (what_of (bytes_of l)))
given_line_law c s n l = by (is_longer line_limit l)
  where
    by : (b : Bool) → after_line c s (cond b (Long n) (Plain n (bytes_of l))) ≡ cond b (s, Refused TooLong) (after_what c s (what_of (bytes_of l)))
    by true = refl
    by false = refl
