-- The first line of a text.
use Rattle.std.proofs.Common.{◌≡◌, ℕ, ◌+◌, ◌<◌, Bool, true, false, cond, not, ◌==◌, ◌&&◌, List, [], ◌∷◌, ◌++◌, take, drop, length, refl, sym, ap, subst, ◌∙◌, suc, one-add, arith, ◌≤◌, take_all, drop_of_length-le, le_refl, true≢false}
use Rattle.std.specs.List.{prefix_len}
use Rattle.std.proofs.lemmas.List.{append-nil}
use Rattle.crs_base.specs.Lines.{Line, lines_of, onto, is_no_feed, is_part}

abbrev pub whole : List ℕ → Line
whole xs = record { raw = xs; ended = true }

abbrev pub rest_of_text : List ℕ → Line
rest_of_text xs = record { raw = xs; ended = false }

-- the lines, where the first has n bytes
abbrev pub cut_at : List ℕ → ℕ → List ℕ → List Line
cut_at text n more = whole (take n text) ∷ lines_of (drop (n + 1) text ++ more)

front_step : (b : ℕ) (bs more : List ℕ) (t : Bool) → (b == 10) ≡ t → prefix_len is_no_feed (b ∷ bs) < suc (length bs)
    → (prefix_len is_no_feed bs < length bs → lines_of (bs ++ more) ≡ cut_at bs (prefix_len is_no_feed bs) more)
    → lines_of (b ∷ (bs ++ more)) ≡ cut_at (b ∷ bs) (prefix_len is_no_feed (b ∷ bs)) more
front_step b bs more true e k rest =
    (λ i. cond (e i) (whole [] ∷ lines_of (bs ++ more)) (onto b (lines_of (bs ++ more))))
    ∙ sym (λ i. cut_at (b ∷ bs) (cond (not (e i)) (1 + prefix_len is_no_feed bs) 0) more)
front_step b bs more false e k rest =
    let n = prefix_len is_no_feed bs in
    let within : 1 + n < suc (length bs) = subst (λ t. cond (not t) (1 + n) 0 < suc (length bs)) e k in
    let moved : suc n + 1 ≡ suc (n + 1) = omega arith in
    (λ i. cond (e i) (whole [] ∷ lines_of (bs ++ more)) (onto b (lines_of (bs ++ more))))
    ∙ ap (onto b) (rest (omega arith))
    ∙ sym ((λ i. cut_at (b ∷ bs) (cond (not (e i)) (1 + n) 0) more) ∙ ap (λ q. cut_at (b ∷ bs) q more) (one-add n) ∙ ap (λ q. whole (b ∷ take n bs) ∷ lines_of (drop q (b ∷ bs) ++ more)) moved)

-- the first line, where a line feed ends it, whatever follows
pub line_front : (text more : List ℕ) → prefix_len is_no_feed text < length text → lines_of (text ++ more) ≡ cut_at text (prefix_len is_no_feed text) more
line_front [] more h = absurd (omega arith)
line_front (b ∷ bs) more h = front_step b bs more (b == 10) refl h (line_front bs more)

-- bytes without a line feed in front of lines
abbrev pub joined : List ℕ → List Line → List Line
joined p [] = rest_of_text p ∷ []
joined p (l ∷ ls) = record { raw = p ++ l.raw; ended = l.ended } ∷ ls

onto_joined : (b : ℕ) (p : List ℕ) (ls : List Line) → onto b (joined p ls) ≡ joined (b ∷ p) ls
onto_joined b p [] = refl
onto_joined b p (l ∷ ls) = refl

onto_one : (b : ℕ) (ls : List Line) → onto b ls ≡ joined (b ∷ []) ls
onto_one b [] = refl
onto_one b (l ∷ ls) = refl

-- a byte of a part
pub part_head : (b : ℕ) (t : Bool) (p : Bool) → (b == 10) ≡ t → (not t && p) ≡ true → ((b == 10) ≡ false) × (p ≡ true)
part_head b true p e h = absurd (true≢false (sym h))
part_head b false p e h = (e, h)

pub part_front : (p : List ℕ) (b : ℕ) (y : List ℕ) → is_part (b ∷ p) ≡ true → lines_of (b ∷ (p ++ y)) ≡ joined (b ∷ p) (lines_of y)
part_front [] b y h = let k : ((b == 10) ≡ false) × (is_part [] ≡ true) = part_head b (b == 10) (is_part []) refl h in
    (λ i. cond (k.0 i) (whole [] ∷ lines_of y) (onto b (lines_of y))) ∙ onto_one b (lines_of y)
part_front (c ∷ p) b y h = let k : ((b == 10) ≡ false) × (is_part (c ∷ p) ≡ true) = part_head b (b == 10) (is_part (c ∷ p)) refl h in
    (λ i. cond (k.0 i) (whole [] ∷ lines_of (c ∷ (p ++ y))) (onto b (lines_of (c ∷ (p ++ y)))))
    ∙ ap (onto b) (part_front p c y k.1) ∙ onto_joined b (c ∷ p) (lines_of y)

-- the lines behind a part, which isn't empty
pub part_lines : (p y : List ℕ) → 0 < length p → is_part p ≡ true → lines_of (p ++ y) ≡ joined p (lines_of y)
part_lines [] y some h = absurd (omega arith)
part_lines (b ∷ p) y some h = part_front p b y h

last_step : (b : ℕ) (bs : List ℕ) (t : Bool) → (b == 10) ≡ t → prefix_len is_no_feed (b ∷ bs) ≡ suc (length bs)
    → (prefix_len is_no_feed bs ≡ length bs → onto b (lines_of bs) ≡ rest_of_text (b ∷ bs) ∷ []) → lines_of (b ∷ bs) ≡ rest_of_text (b ∷ bs) ∷ []
last_step b bs true e k rest =
    let none : 0 ≡ suc (length bs) = subst (λ t. cond (not t) (1 + prefix_len is_no_feed bs) 0 ≡ suc (length bs)) e k in absurd (omega arith)
last_step b bs false e k rest =
    let n = prefix_len is_no_feed bs in
    let all : 1 + n ≡ suc (length bs) = subst (λ t. cond (not t) (1 + n) 0 ≡ suc (length bs)) e k in
    (λ i. cond (e i) (whole [] ∷ lines_of bs) (onto b (lines_of bs))) ∙ rest (omega arith)

last_line : (bs : List ℕ) (b : ℕ) → prefix_len is_no_feed (b ∷ bs) ≡ suc (length bs) → lines_of (b ∷ bs) ≡ rest_of_text (b ∷ bs) ∷ []
last_line [] b h = last_step b [] (b == 10) refl h (λ _. refl)
last_line (c ∷ cs) b h = last_step b (c ∷ cs) (b == 10) refl h (λ k. ap (onto b) (last_line cs c k))

-- the first line, where none does
pub line_last : (text : List ℕ) → 0 < length text → prefix_len is_no_feed text ≡ length text → lines_of text ≡ rest_of_text text ∷ []
line_last [] h k = absurd (omega arith)
line_last (b ∷ bs) h k = last_line bs b k

-- the same, for parts that were read
pub read_front : (text raw rest : List ℕ) (n : ℕ) → n ≡ prefix_len is_no_feed text → n < length text → raw ≡ take n text → rest ≡ drop (n + 1) text → lines_of text ≡ whole raw ∷ lines_of rest
read_front text raw rest n is h at behind = sym (ap lines_of (append-nil text)) ∙ line_front text [] (subst (λ m. m < length text) is h) ∙ ap (λ q. cut_at text q []) (sym is) ∙ ap (λ r. whole (take n text) ∷ lines_of r) (append-nil (drop (n + 1) text)) ∙ sym (λ i. whole (at i) ∷ lines_of (behind i))

pub read_last : (text raw rest : List ℕ) (n : ℕ) → n ≡ prefix_len is_no_feed text → 0 < length text → n ≤ length text → length text ≤ n → raw ≡ take (length text) text → rest ≡ drop (length text) text → lines_of text ≡ rest_of_text raw ∷ lines_of rest
read_last text raw rest n is some h k at behind =
    let full : prefix_len is_no_feed text ≡ length text = omega (arith, is) in
    (line_last text some full ∙ (λ i. rest_of_text (sym (at ∙ take_all (length text) text (le_refl (length text))) i) ∷ lines_of (sym (behind ∙ drop_of_length-le text (le_refl (length text))) i)))
