-- The rounds in which the lines of several logs are taken.
use Rattle.std.specs.Prelude.{ℕ, zero, suc, ◌+◌, max, List, [], ◌∷◌, ◌++◌, length, take, map, slice_get}
use Rattle.std.specs.Option.{option_map_or}
use Rattle.crs_base.specs.Lines.{lines_of}
use Rattle.crs_log.specs.Reading.{Given, numbered}
use Rattle.crs_feeds.specs.Merged.{Pair}

-- the turn of feed n in a round, which are counted from 0: it gives the line of its log with this place, or nothing where its log has ended
abbrev pub turn_of : ℕ → ℕ → List Given → List Pair
turn_of n round log = option_map_or (λ l. record { feed = n; line = l } ∷ []) (slice_get log round) []

-- a round: a turn of each feed, in the order of their logs, of which the first is that of feed n
abbrev pub round_of : ℕ → ℕ → List (List Given) → List Pair
round_of n round [] = []
round_of n round (log ∷ logs) = turn_of n round log ++ round_of (n + 1) round logs

-- so many rounds, one after the other
abbrev pub first_rounds : ℕ → List (List Given) → List Pair
first_rounds zero logs = []
first_rounds (suc k) logs = first_rounds k logs ++ round_of 0 k logs

-- what was taken before the turn of feed n in a round
abbrev pub pairs_before : (round n : ℕ) → List (List Given) → List Pair
pairs_before round n logs = first_rounds round logs ++ round_of 0 round (take n logs)

-- how many lines the longest log has
abbrev pub longest : List (List Given) → ℕ
longest [] = 0
longest (log ∷ logs) = max (length log) (longest logs)

-- the lines of all logs, in the order in which they are taken
abbrev pub pairs_of : List (List Given) → List Pair
pairs_of logs = first_rounds (longest logs) logs

-- the lines of some logs by their bytes
abbrev pub lines_in : List (List ℕ) → List (List Given)
lines_in logs = map (λ log. numbered (lines_of log)) logs
