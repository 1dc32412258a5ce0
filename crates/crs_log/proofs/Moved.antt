-- One line is given.
use Rattle.std.proofs.Common.{◌≡◌, ℕ, ◌+◌, ◌-◌, ◌<◌, ◌≤◌, Bool, true, false, cond, not, ◌==◌, List, [], ◌∷◌, ◌++◌, take, drop, length, get_or, refl, sym, ap, subst, ◌∙◌, suc, zero, arith, length-drop, eq-eqb}
use Rattle.std.proofs.lemmas.List.{drop-drop, get_or-drop}
use Rattle.std.proofs.Math.Seq.{drop-length}
use Rattle.std.specs.List.{prefix_len}
use Rattle.crs_base.specs.Lines.{is_no_feed}
use Rattle.crs_base.specs.Lines.{is_part}
use Rattle.crs_log.specs.Reading.{Given, given, given_line, given_lines, IsTail}
use Rattle.crs_base.proofs.LineSteps.{line_front, part_lines, whole, rest_of_text, cut_at}

first_feed : (b : ℕ) (bs : List ℕ) (t : Bool) → (b == 10) ≡ t → (k : ℕ) → (t ≡ false → prefix_len is_no_feed bs ≤ k) → prefix_len is_no_feed (b ∷ bs) ≤ suc k
first_feed b bs true e k h = subst (λ n. n ≤ suc k) (sym (λ i. cond (not (e i)) (1 + prefix_len is_no_feed bs) 0)) (omega arith)
first_feed b bs false e k h = subst (λ n. n ≤ suc k) (sym (λ i. cond (not (e i)) (1 + prefix_len is_no_feed bs) 0)) (omega (arith, h refl))

at_feed : (b : ℕ) (bs : List ℕ) → b ≡ 10 → prefix_len is_no_feed (b ∷ bs) ≤ 0
at_feed b bs e = subst (λ n. n ≤ 0) (sym (λ i. cond (not (eq-eqb b 10 e i)) (1 + prefix_len is_no_feed bs) 0)) (omega arith)

-- a line feed at k ends the first line there or before
feed_at : (xs : List ℕ) (k : ℕ) → k < length xs → get_or xs k 0 ≡ 10 → prefix_len is_no_feed xs ≤ k
feed_at [] k h e = absurd (omega arith)
feed_at (b ∷ bs) zero h e = at_feed b bs e
feed_at (b ∷ bs) (suc k) h e = first_feed b bs (b == 10) refl k (λ _. feed_at bs k (omega (arith, h)) e)

pub within_tail : (from tail : ℕ) (held : List ℕ) → IsTail from held tail → from < tail → from + prefix_len is_no_feed (drop from held) < tail
within_tail from tail held h lt =
    let k : ℕ = (tail - 1) - from in
    let high : tail ≤ length held = h.high in
    let long : length (drop from held) ≡ length held - from = length-drop from held in
    let inside : k < length (drop from held) = omega (arith, long, lt, high) in
    let place : from + k ≡ tail - 1 = omega (arith, lt) in
    let feed : get_or (drop from held) k 0 ≡ 10 = get_or-drop from held k 0 ∙ ap (λ j. get_or held j 0) place ∙ h.fed lt in
    let below : prefix_len is_no_feed (drop from held) ≤ k = feed_at (drop from held) k inside feed in
    omega (arith, below, lt)

-- a whole line
pub whole_moves : (limit number from tail len : ℕ) (held view again rest raw : List ℕ) (g : Given) (more : List ℕ)
    → tail ≤ length held → view ≡ held → len ≡ prefix_len is_no_feed (drop from view) → from + len < tail
    → again ≡ held → rest ≡ drop from again → raw ≡ take len rest → g ≡ given_line limit (number + 1) (whole raw)
    → given limit number (drop from held ++ more) ≡ g ∷ given limit (number + 1) (drop (from + len + 1) held ++ more)
whole_moves limit number from tail len held view again rest raw g more high seen is lt seen2 behind front told =
    let n : ℕ = prefix_len is_no_feed (drop from held) in
    let same : n ≡ len = ap (λ xs. prefix_len is_no_feed (drop from xs)) (sym seen) ∙ sym is in
    let long : length (drop from held) ≡ length held - from = length-drop from held in
    let inside : n < length (drop from held) = omega (arith, long, same, lt, high) in
    let place : from + (len + 1) ≡ from + len + 1 = omega arith in
    let text : take len (drop from held) ≡ raw = sym (front ∙ ap (take len) (behind ∙ ap (drop from) seen2)) in
    ap (given_lines limit number) (line_front (drop from held) more inside ∙ ap (λ k. cut_at (drop from held) k more) same)
    ∙ (λ i. (ap (λ xs. given_line limit (number + 1) (whole xs)) text ∙ sym told) i ∷ given limit (number + 1) ((drop-drop (len + 1) from held ∙ ap (λ k. drop k held) place) i ++ more))

-- the last line, which no line feed ends
pub last_moves : (limit number from tail : ℕ) (held again raw : List ℕ) (g : Given) (more : List ℕ)
    → IsTail from held tail → tail ≤ from → from < length held → more ≡ []
    → again ≡ held → raw ≡ drop from again → g ≡ given_line limit (number + 1) (rest_of_text raw)
    → given limit number (drop from held ++ more) ≡ g ∷ given limit (number + 1) (drop (length held) held ++ more)
last_moves limit number from tail held again raw g more h low lt none seen behind told =
    let low2 : from ≤ tail = h.low in
    let at : tail ≡ from = omega (arith, low, low2) in
    let part : is_part (drop from held) ≡ true = subst (λ k. is_part (drop k held) ≡ true) at h.part in
    let long : length (drop from held) ≡ length held - from = length-drop from held in
    let some : 0 < length (drop from held) = omega (arith, long, lt) in
    let text : drop from held ≡ raw = sym (behind ∙ ap (drop from) seen) in
    ap (λ m. given limit number (drop from held ++ m)) none
    ∙ ap (given_lines limit number) (part_lines (drop from held) [] some part)
    ∙ (λ i. (ap (λ xs. given_line limit (number + 1) (rest_of_text xs)) text ∙ sym told) i ∷ [])
    ∙ sym (λ i. g ∷ given limit (number + 1) (drop-length held i ++ none i))

pub drops_less : (m n : ℕ) (xs : List ℕ) → m < n → m < length xs → length (drop n xs) < length (drop m xs)
drops_less m n xs lt inside = let a : length (drop n xs) ≡ length xs - n = length-drop n xs in let b : length (drop m xs) ≡ length xs - m = length-drop m xs in omega (arith, a, b, lt, inside)
