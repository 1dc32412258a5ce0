-- The rounds of two logs worked by hand.
use Rattle.std.proofs.Common.{◌≡◌, ℕ, ◌+◌, ◌*◌, List, [], ◌∷◌, map, refl}
use Rattle.std.specs.Prelude.{codes}
use Rattle.crs_log.specs.Reading.{Given, number_of}
use Rattle.crs_feeds.specs.Merged.{Pair}
use Rattle.crs_rounds.specs.FeedRounds.{pairs_of, pairs_before, lines_in}

abbrev place : Pair → ℕ
place p = p.feed + 10 * number_of p.line

abbrev logs : List (List Given)
logs = lines_in (codes "a\nb\nc" ∷ codes "d\n" ∷ [])

-- a log that has ended is passed over
rounds : map place (pairs_of logs) ≡ 10 ∷ 11 ∷ 20 ∷ 30 ∷ []
rounds = refl

-- the pairs before the second log's second turn
before : map place (pairs_before 1 1 logs) ≡ 10 ∷ 11 ∷ 20 ∷ []
before = refl
