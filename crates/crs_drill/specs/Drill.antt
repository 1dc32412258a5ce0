-- The made log. Its numbers are drawn one after the other from a state x, which starts as the seed.
use Rattle.std.specs.Prelude.{ℕ, zero, suc, ◌+◌, ◌-◌, ◌*◌, ◌%◌, ◌==◌, if◌then◌else◌, List, [], ◌++◌, get_or, set, replicate, codes, decimal}

-- what x becomes at a draw; a draw of m gives it modulo m
unfoldable pub next : ℕ → ℕ
next x = x * 48271 % 2147483647

-- the state between two lines: x, the base date and the stage of each unit
pub record State : Type 0 where
  pub x : ℕ
  pub base : ℕ
  pub stages : List ℕ

-- the start
abbrev pub first_state : ℕ → State
first_state seed = record { x = seed; base = 0; stages = replicate 64 0 }

-- the base grows by a draw of 3
abbrev pub grown : State → State
grown s = record { x = next s.x; base = s.base + next s.x % 3; stages = s.stages }

-- a draw that leaves the rest as it is
abbrev pub drawn : State → State
drawn s = record { x = next s.x; base = s.base; stages = s.stages }

-- the stage of a unit
abbrev pub stage_of : ℕ → State → ℕ
stage_of unit s = get_or s.stages unit 0

-- the unit's stage is the next of the 8
abbrev pub staged : ℕ → State → State
staged unit s = record { x = s.x; base = s.base; stages = set s.stages unit ((stage_of unit s + 1) % 8) }

-- the kind of the unit's line, where x was just drawn for it: a draw of 8 where x is a multiple of 4, and else the unit's stage
abbrev pub kind_of : ℕ → State → ℕ
kind_of unit s = if s.x % 4 == 0 then next s.x % 8 else stage_of unit s

-- the state behind it: only a stage that was given moves on
abbrev pub behind_kind : ℕ → State → State
behind_kind unit s = if s.x % 4 == 0 then drawn s else staged unit s

-- `DATE mKIND[uUNIT]`
abbrev pub line_text : ℕ → ℕ → ℕ → List ℕ
line_text date kind unit = decimal date ++ codes " m" ++ decimal kind ++ codes "[u" ++ decimal unit ++ codes "]\n"

-- after the base has grown: the date is less a draw of 8, or 0, and the unit a draw of 64
abbrev pub date_of : State → ℕ
date_of s = s.base - next s.x % 8

abbrev pub unit_of : State → ℕ
unit_of s = next (next s.x) % 64

abbrev pub dated : State → State
dated s = drawn (drawn s)

-- the line of a grown state, and the state behind the line
abbrev pub line_of : State → List ℕ
line_of s = line_text (date_of s) (kind_of (unit_of s) (drawn (dated s))) (unit_of s)

abbrev pub behind_line : State → State
behind_line s = behind_kind (unit_of s) (drawn (dated s))

-- `clock BASE` behind each line whose number is a multiple of 16
abbrev pub clock_text : ℕ → State → List ℕ
clock_text number s = if number % 16 == 0 then codes "clock " ++ decimal s.base ++ codes "\n" else []

-- n more lines behind the first k, and `end`
unfoldable pub lines_behind : ℕ → ℕ → State → List ℕ
lines_behind k zero s = codes "end\n"
lines_behind k (suc n) s = line_of (grown s) ++ clock_text (k + 1) (behind_line (grown s)) ++ lines_behind (k + 1) n (behind_line (grown s))

-- the log of n lines
abbrev pub drill_text : ℕ → ℕ → List ℕ
drill_text seed n = codes "delay 8\n" ++ lines_behind 0 n (first_state seed)
