-- The rounds, turn by turn.
use Rattle.std.proofs.Common.{◌≡◌, ◌∙◌, ap, sym, refl, inl, inr, ℕ, zero, suc, ◌+◌, ◌<◌, ◌≤◌, max, List, [], ◌∷◌, ◌++◌, length, take, get_or, slice_get}
use Rattle.std.proofs.Common.{arith, append-nil, append_assoc, Option, Some}
use Rattle.std.proofs.lemmas.Bool.{cases_lt}
use Rattle.std.specs.Option.{option_map_or}
use Rattle.std.proofs.lemmas.Option.{slice_get_past}
use Rattle.std.proofs.Math.Seq.{take-length}
use Rattle.crs_log.specs.Reading.{Given}
use Rattle.crs_feeds.specs.Merged.{Pair}
use Rattle.crs_rounds.specs.FeedRounds.{turn_of, round_of, first_rounds, pairs_before, longest, pairs_of}

abbrev pub pair : ℕ → Given → Pair
pair n g = record { feed = n; line = g }

-- the turn of a feed whose log has a line left, and of one whose log has none
pub turn_gives : (n round : ℕ) (log : List Given) (g : Given) → slice_get log round ≡ Some g → turn_of n round log ≡ pair n g ∷ []
turn_gives n round log g e = ap (λ (o : Option Given). option_map_or (λ l. pair n l ∷ []) o []) e

pub turn_none : (n round : ℕ) (log : List Given) → length log ≤ round → turn_of n round log ≡ []
turn_none n round log e = ap (λ (o : Option Given). option_map_or (λ l. pair n l ∷ []) o []) (slice_get_past log round e)

round_more : (i round n : ℕ) (logs : List (List Given)) → n < length logs
    → round_of i round (take (suc n) logs) ≡ round_of i round (take n logs) ++ turn_of (i + n) round (get_or logs n [])
round_more i round n [] l = absurd (omega (arith, l))
round_more i round zero (log ∷ logs) l =
    let e : i ≡ i + 0 = omega arith in
    append-nil (turn_of i round log) ∙ ap (λ k. turn_of k round log) e
round_more i round (suc n) (log ∷ logs) l =
    let e : i + 1 + n ≡ i + suc n = omega arith in
    ap (λ (ps : List Pair). turn_of i round log ++ ps) (round_more (i + 1) round n logs (omega (arith, l)))
    ∙ sym (append_assoc (turn_of i round log) (round_of (i + 1) round (take n logs)) (turn_of (i + 1 + n) round (get_or logs n [])))
    ∙ ap (λ k. (turn_of i round log ++ round_of (i + 1) round (take n logs)) ++ turn_of k round (get_or logs n [])) e

-- one more turn
pub before_more : (round n : ℕ) (logs : List (List Given)) → n < length logs
    → pairs_before round (n + 1) logs ≡ pairs_before round n logs ++ turn_of n round (get_or logs n [])
before_more round n logs l =
    let e : suc n ≡ n + 1 = omega arith in
    let z : 0 + n ≡ n = omega arith in
    ap (λ k. first_rounds round logs ++ round_of 0 round (take k logs)) (sym e)
    ∙ ap (λ (ps : List Pair). first_rounds round logs ++ ps) (round_more 0 round n logs l ∙ ap (λ k. round_of 0 round (take n logs) ++ turn_of k round (get_or logs n [])) z)
    ∙ sym (append_assoc (first_rounds round logs) (round_of 0 round (take n logs)) (turn_of n round (get_or logs n [])))

-- a round that has ended
pub before_next : (round n : ℕ) (logs : List (List Given)) → n ≡ length logs → pairs_before round n logs ≡ pairs_before (round + 1) 0 logs
before_next round n logs is =
    let e : suc round ≡ round + 1 = omega arith in
    ap (λ k. first_rounds round logs ++ round_of 0 round (take k logs)) is
    ∙ ap (λ (ls : List (List Given)). first_rounds round logs ++ round_of 0 round ls) (take-length logs)
    ∙ sym (append-nil (first_rounds (suc round) logs))
    ∙ ap (λ k. first_rounds k logs ++ []) e

-- no log has more lines than the longest
pub longest_low : (k : ℕ) (logs : List (List Given)) → ((n : ℕ) → n < length logs → length (get_or logs n []) ≤ k) → longest logs ≤ k
longest_low k [] h = omega arith
longest_low k (log ∷ logs) h =
    let a = h 0 (omega arith) in
    let b = longest_low k logs (λ n l. h (suc n) (omega (arith, l))) in
    let m : max (length log) (longest logs) ≤ k = omega (arith, a, b) in m

round_none : (i round : ℕ) (logs : List (List Given)) → longest logs ≤ round → round_of i round logs ≡ []
round_none i round [] h = refl
round_none i round (log ∷ logs) h =
    let a : length log ≤ round = omega (arith, h) in
    let b : longest logs ≤ round = omega (arith, h) in
    (λ j. turn_none i round log a j ++ round_none (i + 1) round logs b j)

-- behind the last line there are only empty rounds
pub all_rounds : (k : ℕ) (logs : List (List Given)) → longest logs ≤ k → first_rounds k logs ≡ pairs_of logs
all_rounds zero logs h = let e : 0 ≡ longest logs = omega (arith, h) in ap (λ n. first_rounds n logs) e
all_rounds (suc k) logs h = elim (cases_lt k (longest logs)) [
  | inl l ↦ let e : suc k ≡ longest logs = omega (arith, l, h) in ap (λ n. first_rounds n logs) e
  | inr m ↦ ap (λ (ps : List Pair). first_rounds k logs ++ ps) (round_none 0 k logs m) ∙ append-nil (first_rounds k logs) ∙ all_rounds k logs m
]
