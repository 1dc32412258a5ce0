-- How much of a line that isn't ended is held.
use Rattle.std.proofs.Common.{◌≡◌, ℕ, ◌+◌, ◌-◌, ◌<◌, ◌≤◌, Bool, true, false, cond, not, ◌==◌, ◌&&◌, List, [], ◌∷◌, ◌++◌, take, drop, length, get_or, max, refl, sym, ap, ◌∙◌, suc, zero, arith, nat_lt, ltb-true, length-append, length-drop, true≢false, le_refl, one-add, ltb-false}
use Rattle.std.proofs.lemmas.List.{drop-drop, get_or-drop, get_or-take, drop-append-le, take-append-drop}
use Rattle.std.proofs.lemmas.List.Folds.{list_all-append, list_all_at}
use Rattle.std.specs.List.{prefix_len}
use Rattle.crs_base.specs.Lines.{is_no_feed}
use Rattle.crs_base.specs.Lines.{is_part}
use Rattle.crs_log.specs.Reading.{part_of, kept, IsTail}

part_whole : (ys : List ℕ) (t : Bool) → is_part ys ≡ t → cond t ys (part_of ys) ≡ part_of ys
part_whole [] true e = refl
part_whole [] false e = refl
part_whole (b ∷ bs) false e = refl
part_whole (b ∷ bs) true e = sym (λ i. cond (e i) (b ∷ bs) (part_of bs))

and_right : (a : Bool) → (a && false) ≡ false
and_right true = refl
and_right false = refl

append_by : (x : ℕ) (xs ys : List ℕ) (t : Bool) → is_part ys ≡ t → part_of (xs ++ ys) ≡ cond t (part_of xs ++ ys) (part_of ys)
    → part_of (x ∷ (xs ++ ys)) ≡ cond t (part_of (x ∷ xs) ++ ys) (part_of ys)
append_by x xs ys true e h = whole (is_part (x ∷ xs)) refl
  where
    all : is_part (x ∷ (xs ++ ys)) ≡ (is_part (x ∷ xs) && true)
    all = list_all-append is_no_feed (x ∷ xs) ys ∙ ap (λ b. is_part (x ∷ xs) && b) e

    whole : (s : Bool) → is_part (x ∷ xs) ≡ s → part_of (x ∷ (xs ++ ys)) ≡ part_of (x ∷ xs) ++ ys
    whole true f = let g : is_part (x ∷ (xs ++ ys)) ≡ true = all ∙ ap (λ b. b && true) f in
        (λ i. cond (g i) (x ∷ (xs ++ ys)) (part_of (xs ++ ys))) ∙ sym (λ i. cond (f i) (x ∷ xs) (part_of xs) ++ ys)
    whole false f = let g : is_part (x ∷ (xs ++ ys)) ≡ false = all ∙ ap (λ b. b && true) f in
        (λ i. cond (g i) (x ∷ (xs ++ ys)) (part_of (xs ++ ys))) ∙ h ∙ sym (λ i. cond (f i) (x ∷ xs) (part_of xs) ++ ys)
append_by x xs ys false e h =
    let g : is_part (x ∷ (xs ++ ys)) ≡ false = list_all-append is_no_feed (x ∷ xs) ys ∙ ap (λ b. is_part (x ∷ xs) && b) e ∙ and_right (is_part (x ∷ xs)) in
    (λ i. cond (g i) (x ∷ (xs ++ ys)) (part_of (xs ++ ys))) ∙ h

part_append : (xs ys : List ℕ) → part_of (xs ++ ys) ≡ cond (is_part ys) (part_of xs ++ ys) (part_of ys)
part_append [] ys = sym (part_whole ys (is_part ys) refl)
part_append (x ∷ xs) ys = append_by x xs ys (is_part ys) refl (part_append xs ys)

short_by : (t : Bool) (b : ℕ) (bs : List ℕ) → length (part_of bs) ≤ length bs → length (cond t (b ∷ bs) (part_of bs)) ≤ suc (length bs)
short_by true b bs h = omega arith
short_by false b bs h = omega (arith, h)

part_short : (ys : List ℕ) → length (part_of ys) ≤ length ys
part_short [] = le_refl 0
part_short (b ∷ bs) = short_by (is_part (b ∷ bs)) b bs (part_short bs)

-- what ends with a line feed has no part
ends_none : (w : List ℕ) (k : ℕ) → suc k ≡ length w → get_or w k 0 ≡ 10 → part_of w ≡ []
ends_none [] k h e = refl
ends_none (b ∷ bs) zero h e = empty bs (omega (arith, h)) (list_all_at is_no_feed (b ∷ bs) 0 0 (omega arith) (ap is_no_feed e))
  where
    empty : (bs : List ℕ) → length bs ≡ 0 → is_part (b ∷ bs) ≡ false → part_of (b ∷ bs) ≡ []
    empty [] n f = λ i. cond (f i) (b ∷ []) []
    empty (c ∷ cs) n f = absurd (omega (arith, n))
ends_none (b ∷ bs) (suc k) h e =
    let f : is_part (b ∷ bs) ≡ false = list_all_at is_no_feed (b ∷ bs) (suc k) 0 (omega (arith, h)) (ap is_no_feed e) in
    (λ i. cond (f i) (b ∷ bs) (part_of bs)) ∙ ends_none bs k (omega (arith, h)) e

skip_by : (b : ℕ) (bs : List ℕ) (t : Bool) → (b == 10) ≡ t → (is_part (drop (prefix_len is_no_feed bs) bs) ≡ true → drop (prefix_len is_no_feed bs) bs ≡ [])
    → is_part (drop (cond (not t) (1 + prefix_len is_no_feed bs) 0) (b ∷ bs)) ≡ true → drop (cond (not t) (1 + prefix_len is_no_feed bs) 0) (b ∷ bs) ≡ []
skip_by b bs true e rest h = absurd (true≢false (sym h ∙ (λ i. not (e i) && is_part bs)))
skip_by b bs false e rest h = ap (λ n. drop n (b ∷ bs)) (one-add (prefix_len is_no_feed bs)) ∙ rest (sym (ap (λ n. is_part (drop n (b ∷ bs))) (one-add (prefix_len is_no_feed bs))) ∙ h)

-- what stands behind the first bytes without a line feed begins with one
skip_none : (xs : List ℕ) → is_part (drop (prefix_len is_no_feed xs) xs) ≡ true → drop (prefix_len is_no_feed xs) xs ≡ []
skip_none [] h = refl
skip_none (b ∷ bs) h = skip_by b bs (b == 10) refl (skip_none bs) h

module _ (limit from tail : ℕ) (held piece : List ℕ) (h : IsTail from held tail) where
  abbrev front : List ℕ
  front = take (tail - from) (drop from held)

  abbrev part : List ℕ
  part = drop tail held

  abbrev room : ℕ
  room = max (length (part_of (drop from held))) (limit + length piece)

  -- the front and the part are the rest
  parted : front ++ part ≡ drop from held
  parted = let e : from + (tail - from) ≡ tail = omega (arith, h.low) in
      ap (λ xs. front ++ xs) (sym (drop-drop (tail - from) from held ∙ ap (λ k. drop k held) e)) ∙ take-append-drop (tail - from) (drop from held)

  front_none : (t : Bool) → nat_lt from tail ≡ t → part_of front ≡ []
  front_none true e =
      let lt : from < tail = ltb-true from tail e in
      let high : tail ≤ length held = h.high in
      let k : ℕ = (tail - 1) - from in
      let whole : length (front ++ part) ≡ length (drop from held) = ap length parted in
      let a : length (front ++ part) ≡ length front + length part = length-append front part in
      let b : length (drop from held) ≡ length held - from = length-drop from held in
      let c : length part ≡ length held - tail = length-drop tail held in
      let size : suc k ≡ length front = omega (arith, whole, a, b, c, lt, high) in
      let below : k < tail - from = omega (arith, lt) in
      let place : from + k ≡ tail - 1 = omega (arith, lt) in
      ends_none front k size (get_or-take (tail - from) (drop from held) k 0 below ∙ get_or-drop from held k 0 ∙ ap (λ j. get_or held j 0) place ∙ h.fed lt)
  front_none false e =
      let ge : tail ≤ from = ltb-false from tail e in
      let none : tail - from ≡ 0 = omega (arith, ge) in
      ap (λ n. part_of (take n (drop from held))) none

  rest_part : part_of (drop from held) ≡ part
  rest_part = ap part_of (sym parted) ∙ part_append front part ∙ (λ i. cond (h.part i) (part_of front ++ part) (part_of part)) ∙ ap (λ xs. xs ++ part) (front_none (nat_lt from tail) refl)

  abbrev Fits : List ℕ → Type 0
  Fits k = length (part_of (drop from (held ++ k))) ≤ max (length (part_of (drop from held))) (limit + length piece)

  new_part : (k : List ℕ) → part_of (drop from (held ++ k)) ≡ cond (is_part k) (part ++ k) (part_of k)
  new_part k = let in_range : from ≤ length held = omega (arith, h.low, h.high) in
      ap part_of (drop-append-le from held k in_range) ∙ part_append (drop from held) k ∙ (λ i. cond (is_part k) (rest_part i ++ k) (part_of k))

  ends_part : (k : List ℕ) → is_part k ≡ false → length k ≤ length piece → Fits k
  ends_part k e s =
      let a : length (part_of (drop from (held ++ k))) ≡ length (part_of k) = ap length (new_part k ∙ (λ i. cond (e i) (part ++ k) (part_of k))) in
      let b : length (part_of k) ≤ length k = part_short k in
      omega (arith, a, b, s)

  longer_part : (k : List ℕ) → is_part k ≡ true → length (part_of (drop from (held ++ k))) ≡ length part + length k
  longer_part k e = ap length (new_part k ∙ (λ i. cond (e i) (part ++ k) (part_of k))) ∙ length-append part k

  piece_by : (t : Bool) → is_part piece ≡ t → length part ≤ limit → Fits piece
  piece_by true e s = let a : length (part_of (drop from (held ++ piece))) ≡ length part + length piece = longer_part piece e in omega (arith, a, s)
  piece_by false e s = ends_part piece e (le_refl (length piece))

  skip_fits : (t : Bool) → is_part (drop (prefix_len is_no_feed piece) piece) ≡ t → Fits (drop (prefix_len is_no_feed piece) piece)
  skip_fits true e =
      let a : length (part_of (drop from (held ++ drop (prefix_len is_no_feed piece) piece))) ≡ length part + length (drop (prefix_len is_no_feed piece) piece) = longer_part (drop (prefix_len is_no_feed piece) piece) e in
      let b : length (drop (prefix_len is_no_feed piece) piece) ≡ 0 = ap length (skip_none piece e) in
      let c : length (part_of (drop from held)) ≡ length part = ap length rest_part in
      omega (arith, a, b, c)
  skip_fits false e = let a : length (drop (prefix_len is_no_feed piece) piece) ≡ length piece - prefix_len is_no_feed piece = length-drop (prefix_len is_no_feed piece) piece in
      ends_part (drop (prefix_len is_no_feed piece) piece) e (omega (arith, a))

  fits_by : (t : Bool) → nat_lt limit (length held - tail) ≡ t → Fits (cond t (drop (prefix_len is_no_feed piece) piece) piece)
  fits_by true e = skip_fits (is_part (drop (prefix_len is_no_feed piece) piece)) refl
  fits_by false e = let a : length held - tail ≤ limit = ltb-false limit (length held - tail) e in
      let b : length part ≡ length held - tail = length-drop tail held in piece_by (is_part piece) refl (omega (arith, a, b))

  -- of a line that isn't ended, no more is held than before, or than the limit and this piece
  pub kept_fits : Fits (kept limit held tail piece)
  kept_fits = fits_by (nat_lt limit (length held - tail)) refl
