-- Bytes of a long line that are left out.
use Rattle.std.proofs.Common.{◌≡◌, ℕ, ◌+◌, ◌-◌, ◌<◌, ◌≤◌, ◌⊎◌, inl, inr, Bool, true, false, cond, not, ◌==◌, ◌&&◌, List, [], ◌∷◌, ◌++◌, take, drop, length, refl, sym, ap, subst, ◌∙◌, arith, nat_lt, lt-ltb, ltb-true, append_assoc, length-append, one-add, length-drop, le_refl}
use Rattle.std.proofs.lemmas.List.{take-append-drop, drop-append-le, drop-drop}
use Rattle.std.specs.List.{prefix_len}
use Rattle.crs_base.specs.Lines.{Line, lines_of, onto, is_no_feed, is_longer, bytes_of}
use Rattle.crs_base.specs.Lines.{is_part}
use Rattle.crs_log.specs.Reading.{Plain, Long, given, given_line, given_lines, kept, IsTail}
use Rattle.crs_base.proofs.LineSteps.{part_lines, joined, whole}

module _ (limit : ℕ) where
  abbrev IsLonger : Line → Type 0
  IsLonger l = limit < length l.raw

  abbrev AreAlike : Line → Line → Type 0
  AreAlike l m = (l ≡ m) ⊎ (IsLonger l × IsLonger m)

  -- the lines, one by one, are the same or both long
  abbrev Alike : List Line → List Line → Type 0
  Alike [] [] = Unit {0}
  Alike [] (m ∷ ms) = ⊥
  Alike (l ∷ ls) [] = ⊥
  Alike (l ∷ ls) (m ∷ ms) = AreAlike l m × Alike ls ms

  alike_refl : (ls : List Line) → Alike ls ls
  alike_refl [] = tt
  alike_refl (l ∷ ls) = (inl refl, alike_refl ls)

  long_given : (n : ℕ) (l : Line) → IsLonger l → given_line limit n l ≡ Long n
  long_given n l h = let e : is_longer limit l ≡ true = lt-ltb limit (length l.raw) h in λ i. cond (e i) (Long n) (Plain n (bytes_of l))

  one_given : (n : ℕ) (l m : Line) → AreAlike l m → given_line limit n l ≡ given_line limit n m
  one_given n l m (inl e) = ap (given_line limit n) e
  one_given n l m (inr (h, k)) = long_given n l h ∙ sym (long_given n m k)

  alike_given : (n : ℕ) (ls ms : List Line) → Alike ls ms → given_lines limit n ls ≡ given_lines limit n ms
  alike_given n [] [] h = refl
  alike_given n [] (m ∷ ms) h = absurd h
  alike_given n (l ∷ ls) [] h = absurd h
  alike_given n (l ∷ ls) (m ∷ ms) h = λ i. one_given (n + 1) l m h.0 i ∷ alike_given (n + 1) ls ms h.1 i

  onto_one : (b : ℕ) (l m : Line) → AreAlike l m → AreAlike (record { raw = b ∷ l.raw; ended = l.ended }) (record { raw = b ∷ m.raw; ended = m.ended })
  onto_one b l m (inl e) = inl (λ i. record { raw = b ∷ (e i).raw; ended = (e i).ended })
  onto_one b l m (inr (h, k)) = inr (omega (arith, h), omega (arith, k))

  onto_alike : (b : ℕ) (ls ms : List Line) → Alike ls ms → Alike (onto b ls) (onto b ms)
  onto_alike b [] [] h = (inl refl, tt)
  onto_alike b [] (m ∷ ms) h = absurd h
  onto_alike b (l ∷ ls) [] h = absurd h
  onto_alike b (l ∷ ls) (m ∷ ms) h = (onto_one b l m h.0, h.1)

  front_step : (b : ℕ) (t : Bool) (ls ms : List Line) → Alike ls ms → Alike (cond t (whole [] ∷ ls) (onto b ls)) (cond t (whole [] ∷ ms) (onto b ms))
  front_step b true ls ms h = (inl refl, h)
  front_step b false ls ms h = onto_alike b ls ms h

  -- what stands in front changes nothing
  front_alike : (w x y : List ℕ) → Alike (lines_of x) (lines_of y) → Alike (lines_of (w ++ x)) (lines_of (w ++ y))
  front_alike [] x y h = h
  front_alike (b ∷ w) x y h = front_step b (b == 10) (lines_of (w ++ x)) (lines_of (w ++ y)) (front_alike w x y h)

  longer_with : (p z : List ℕ) → limit < length p → limit < length (p ++ z)
  longer_with p z h = let e : length (p ++ z) ≡ length p + length z = length-append p z in omega (arith, e, h)

  joined_alike : (p s : List ℕ) (ls : List Line) → limit < length p → Alike (joined p ls) (joined p (joined s ls))
  joined_alike p s [] h = (inr (h, longer_with p s h), tt)
  joined_alike p s (l ∷ ls) h = (inr (longer_with p l.raw h, longer_with p (s ++ l.raw) h), alike_refl ls)

  part_skip : (p s y : List ℕ) → limit < length p → is_part p ≡ true → is_part s ≡ true → Alike (lines_of (p ++ y)) (lines_of (p ++ (s ++ y)))
  part_skip p [] y h k j = alike_refl (lines_of (p ++ y))
  part_skip p (b ∷ s) y h k j =
      let some : 0 < length p = omega (arith, h) in
      let more : 0 < length (b ∷ s) = omega arith in
      subst (λ ls. Alike ls (lines_of (p ++ ((b ∷ s) ++ y)))) (sym (part_lines p y some k))
      (subst (λ ls. Alike (joined p (lines_of y)) ls) (sym (part_lines p ((b ∷ s) ++ y) some k ∙ ap (joined p) (part_lines (b ∷ s) y more j)))
      (joined_alike p (b ∷ s) (lines_of y) h))

  pub skip_given : (n : ℕ) (w p s y : List ℕ) → limit < length p → is_part p ≡ true → is_part s ≡ true → given limit n ((w ++ p) ++ y) ≡ given limit n ((w ++ p) ++ (s ++ y))
  skip_given n w p s y h k j = ap (given limit n) (append_assoc w p y) ∙ alike_given n _ _ (front_alike w (p ++ y) (p ++ (s ++ y)) (part_skip p s y h k j)) ∙ sym (ap (given limit n) (append_assoc w p (s ++ y)))

-- the bytes in front of a line feed have none
pub front_is_part : (xs : List ℕ) → is_part (take (prefix_len is_no_feed xs) xs) ≡ true
front_is_part [] = refl
front_is_part (b ∷ bs) = by (b == 10) refl (front_is_part bs)
  where
    by : (t : Bool) → (b == 10) ≡ t → is_part (take (prefix_len is_no_feed bs) bs) ≡ true → is_part (take (cond (not (b == 10)) (1 + prefix_len is_no_feed bs) 0) (b ∷ bs)) ≡ true
    by true e h = λ i. is_part (take (cond (not (e i)) (1 + prefix_len is_no_feed bs) 0) (b ∷ bs))
    by false e h = (λ i. is_part (take (cond (not (e i)) (1 + prefix_len is_no_feed bs) 0) (b ∷ bs))) ∙ ap (λ n. is_part (take n (b ∷ bs))) (one-add (prefix_len is_no_feed bs)) ∙ (λ i. not (e i) && h i)

module _ (limit n from tail : ℕ) (held piece more : List ℕ) (h : IsTail from held tail) where
  within : from ≤ length held
  within = omega (arith, h.low, h.high)

  dropped : (back : List ℕ) → drop from (held ++ back) ++ more ≡ drop from held ++ (back ++ more)
  dropped back = ap (λ xs. xs ++ more) (drop-append-le from held back within) ∙ append_assoc (drop from held) back more

  parted : take (tail - from) (drop from held) ++ drop tail held ≡ drop from held
  parted = let e : from + (tail - from) ≡ tail = omega (arith, h.low) in
      ap (λ xs. take (tail - from) (drop from held) ++ xs) (sym (drop-drop (tail - from) from held ∙ ap (λ k. drop k held) e)) ∙ take-append-drop (tail - from) (drop from held)

  by_length : (t : Bool) → nat_lt limit (length held - tail) ≡ t
      → given limit n (drop from (held ++ cond t (drop (prefix_len is_no_feed piece) piece) piece) ++ more) ≡ given limit n (drop from held ++ (piece ++ more))
  by_length false e = ap (given limit n) (dropped piece)
  by_length true e =
      let k : ℕ = prefix_len is_no_feed piece in
      let w : List ℕ = take (tail - from) (drop from held) in
      let far : limit < length held - tail = ltb-true limit (length held - tail) e in let long : limit < length (drop tail held) = rw length-drop far in
      ap (given limit n) (dropped (drop k piece))
      ∙ ap (λ xs. given limit n (xs ++ (drop k piece ++ more))) (sym parted)
      ∙ skip_given limit n w (drop tail held) (take k piece) (drop k piece ++ more) long h.part (front_is_part piece)
      ∙ ap (λ xs. given limit n (xs ++ (take k piece ++ (drop k piece ++ more)))) parted
      ∙ ap (λ xs. given limit n (drop from held ++ xs)) (sym (append_assoc (take k piece) (drop k piece) more) ∙ ap (λ xs. xs ++ more) (take-append-drop k piece))

  -- what is kept of a piece gives the same lines as the piece
  pub kept_given : given limit n (drop from (held ++ kept limit held tail piece) ++ more) ≡ given limit n (drop from held ++ (piece ++ more))
  kept_given = by_length (nat_lt limit (length held - tail)) refl

short_by : (t : Bool) (k : ℕ) (piece : List ℕ) → length (cond t (drop k piece) piece) ≤ length piece
short_by true k piece = let e : length (drop k piece) ≡ length piece - k = length-drop k piece in omega (arith, e)
short_by false k piece = le_refl (length piece)

-- what is kept isn't longer
pub kept_short : (limit tail : ℕ) (held piece : List ℕ) → length (kept limit held tail piece) ≤ length piece
kept_short limit tail held piece = short_by (nat_lt limit (length held - tail)) (prefix_len is_no_feed piece) piece

-- so the count of lines stays below that of bytes
pub still_within : (limit from tail number fed : ℕ) (held new piece : List ℕ) → IsTail from held tail → new ≡ held ++ kept limit held tail piece → number + (length held - from) ≤ fed → number + (length new - from) ≤ fed + length piece
still_within limit from tail number fed held new piece h is k =
    let e : length new ≡ length held + length (kept limit held tail piece) = ap length is ∙ length-append held (kept limit held tail piece) in
    let s : length (kept limit held tail piece) ≤ length piece = kept_short limit tail held piece in
    let a : from ≤ tail = h.low in let b : tail ≤ length held = h.high in
    omega (arith, e, s, a, b, k)
