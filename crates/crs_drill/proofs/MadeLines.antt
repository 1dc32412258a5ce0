-- The lines of a made log, and the words and marks in them.
use Rattle.std.proofs.Common.{◌≡◌, ◌∙◌, ap, sym, refl, subst, ℕ, zero, suc, ◌+◌, ◌-◌, ◌*◌, ◌<◌, ◌≤◌, one-add, nat_le, ◌==◌, ◌&&◌, ◌||◌, Bool}
use Rattle.std.proofs.Common.{true, false, leb-true, append-nil, cond, List, [], ◌∷◌, ◌++◌, length, map, take, drop, get_or, Option, Some, None}
use Rattle.std.proofs.Common.{arith, append_assoc, length-append}
use Rattle.std.specs.Prelude.{codes, decimal, not, option_map}
use Rattle.std.specs.Int.Digits.{digits_of, AllBelowBase, number_from_digits_after}
use Rattle.std.specs.List.{list_all, prefix_len}
use Rattle.std.specs.Str.Lines.{strip_carriage_return}
use Rattle.std.proofs.lemmas.Bool.{le-leb, and_parts, ne_eqb}
use Rattle.std.proofs.lemmas.Fmt.{decimal-digits_of, decimal_digit}
use Rattle.std.proofs.lemmas.Int.Digits.{all_below_base_digits_of, number_digits_of, length-digits_of-le, first_digits_of}
use Rattle.std.proofs.lemmas.List.{length-map}
use Rattle.std.proofs.lemmas.List.Folds.{list_all-append}
use Rattle.crs_base.proofs.LineSteps.{part_lines, whole}
use Rattle.crs_base.proofs.TokenSteps.{word_front}
use Rattle.crs_base.specs.Lines.{lines_of, is_part, is_passed_over}
use Rattle.crs_base.specs.Numbers.{is_digit, value_on, number_on, number_of}
use Rattle.crs_base.specs.Symbols.{is_symbol, is_symbol_byte}
use Rattle.crs_base.specs.Tokens.{Token, Word, Mark, tokens_behind, tokens_of, begins_word, is_log_mark}
use Rattle.crs_drill.specs.Drill.{line_text}

-- ---- numbers

digits_are : (ds : List ℕ) → AllBelowBase 10 ds → list_all is_digit (map (λ d. 48 + d) ds) ≡ true
digits_are [] h = refl
digits_are (d ∷ ds) h =
    let k = h.0 in
    (λ i. (le-leb 48 (48 + d) (omega arith) i && le-leb (48 + d) 57 (omega arith) i) && digits_are ds h.1 i)

value_is : (n : ℕ) (ds : List ℕ) → value_on n (map (λ d. 48 + d) ds) ≡ number_from_digits_after 10 n ds
value_is n [] = refl
value_is n (d ∷ ds) = ap (λ m. value_on m (map (λ d. 48 + d) ds)) (omega arith) ∙ value_is (n * 10 + d) ds

-- the text of a number of at most 13 digits
pub record IsNumeral (n : ℕ) (w : List ℕ) : Type 0 where
  pub digits : list_all is_digit w ≡ true
  pub some : 0 < length w
  pub few : length w ≤ 13
  pub is : number_of w ≡ Some n

some_digits : (ds : List ℕ) → 0 < get_or ds 0 0 → 0 < length ds
some_digits [] h = absurd (omega arith)
some_digits (d ∷ ds) h = omega arith

numeral_of : (n : ℕ) (ds w : List ℕ) → w ≡ map (λ d. 48 + d) ds → AllBelowBase 10 ds → 0 < length ds → length ds ≤ 13
    → number_from_digits_after 10 0 ds ≡ n → IsNumeral n w
numeral_of n ds w e below some few is =
    let long : length (map (λ d. 48 + d) ds) ≡ length ds = length-map ds (λ d. 48 + d) in
    subst (IsNumeral n) (sym e) (record {
      digits = digits_are ds below;
      some = omega (arith, long);
      few = omega (arith, long);
      is = (λ i. cond (le-leb 1 (length (map (λ d. 48 + d) ds)) (omega (arith, long)) i
          && le-leb (length (map (λ d. 48 + d) ds)) 19 (omega (arith, long)) i) (number_on 0 (map (λ d. 48 + d) ds)) None)
          ∙ (λ i. cond (digits_are ds below i) (Some (value_on 0 (map (λ d. 48 + d) ds))) None)
          ∙ ap Some (value_is 0 ds ∙ is);
    })

pub numeral : (n : ℕ) → n < 10000000000000 → IsNumeral n (decimal n)
numeral zero h = subst (IsNumeral zero) (sym (decimal_digit zero (omega arith)))
    (record { digits = refl; some = omega arith; few = omega arith; is = refl })
numeral (suc n) h =
    numeral_of (suc n) (digits_of 10 (suc n)) (decimal (suc n)) (decimal-digits_of (suc n) (omega arith) (omega arith))
    (all_below_base_digits_of 10 (suc n) (omega arith))
    (some_digits (digits_of 10 (suc n)) (first_digits_of 10 (suc n) (omega arith) (omega arith)))
    (length-digits_of-le 10 13 (suc n) (omega arith) h) (number_digits_of 10 (suc n) (omega arith))

-- ---- words

digit_symbol : (c : ℕ) → is_digit c ≡ true → is_symbol_byte c ≡ true
digit_symbol c h = ap (λ a. a || (nat_le 65 c && nat_le c 90) || (nat_le 97 c && nat_le c 122) || (c == 95) || (c == 46) || (c == 45)) h

digits_symbols : (w : List ℕ) → list_all is_digit w ≡ true → list_all is_symbol_byte w ≡ true
digits_symbols [] h = refl
digits_symbols (c ∷ cs) h =
    let d = and_parts (is_digit c) (list_all is_digit cs) h in
    (λ i. digit_symbol c d.0 i && digits_symbols cs d.1 i)

prefix_front : (w rest : List ℕ) → list_all is_symbol_byte w ≡ true → begins_word rest ≡ false
    → prefix_len is_symbol_byte (w ++ rest) ≡ length w
prefix_front [] [] h k = refl
prefix_front [] (c ∷ cs) h k = λ i. cond (k i) (1 + prefix_len is_symbol_byte cs) 0
prefix_front (b ∷ w) rest h k =
    let p = and_parts (is_symbol_byte b) (list_all is_symbol_byte w) h in
    (λ i. cond (p.0 i) (1 + prefix_len is_symbol_byte (w ++ rest)) 0) ∙ one-add (prefix_len is_symbol_byte (w ++ rest))
    ∙ ap suc (prefix_front w rest p.1 k)

take_front : (w rest : List ℕ) → take (length w) (w ++ rest) ≡ w
take_front [] rest = refl
take_front (b ∷ w) rest = ap (λ l. b ∷ l) (take_front w rest)

drop_front : (w rest : List ℕ) → drop (length w) (w ++ rest) ≡ rest
drop_front [] rest = refl
drop_front (b ∷ w) rest = drop_front w rest

abbrev read : List ℕ → Option (List Token)
read bs = tokens_behind is_log_mark false bs

-- a word in front
front_word : (b : ℕ) (w rest : List ℕ) → list_all is_symbol_byte (b ∷ w) ≡ true → begins_word rest ≡ false
    → read (b ∷ (w ++ rest)) ≡ option_map (λ ts. Word (b ∷ w) ∷ ts) (read rest)
front_word b w rest h k =
    let p = and_parts (is_symbol_byte b) (list_all is_symbol_byte w) h in
    let n = prefix_front (b ∷ w) rest h k in
    word_front is_log_mark b (w ++ rest) p.0
    ∙ (λ i. option_map (λ ts. Word (take (n i) (b ∷ w ++ rest)) ∷ ts) (read (drop (n i) (b ∷ w ++ rest))))
    ∙ (λ i. option_map (λ ts. Word (take_front (b ∷ w) rest i) ∷ ts) (read (drop_front (b ∷ w) rest i)))

front_number : (n : ℕ) (w rest : List ℕ) → IsNumeral n w → begins_word rest ≡ false → read (w ++ rest) ≡ option_map (λ ts. Word w ∷ ts) (read rest)
front_number n [] rest h k = let s = h.some in absurd (omega arith)
front_number n (b ∷ w) rest h k = front_word b w rest (digits_symbols (b ∷ w) h.digits) k

-- a letter and a number
pub lettered : (b n : ℕ) (w : List ℕ) → is_symbol_byte b ≡ true → IsNumeral n w → is_symbol (b ∷ w) ≡ true
lettered b n w letter h =
    let some = h.some in
    let few = h.few in
    λ i. le-leb 1 (length (b ∷ w)) (omega arith) i && le-leb (length (b ∷ w)) 64 (omega arith) i
    && (letter i && digits_symbols w h.digits i)

-- ---- lines

-- the bytes are no control characters
abbrev pub is_plain : List ℕ → Bool
is_plain w = list_all (nat_le 32) w

digit_plain : (c : ℕ) → is_digit c ≡ true → nat_le 32 c ≡ true
digit_plain c h = grind (arith, and_parts (nat_le 48 c) (nat_le c 57) h)

digits_plain : (w : List ℕ) → list_all is_digit w ≡ true → is_plain w ≡ true
digits_plain [] h = refl
digits_plain (c ∷ cs) h =
    let d = and_parts (is_digit c) (list_all is_digit cs) h in
    (λ i. digit_plain c d.0 i && digits_plain cs d.1 i)

-- a byte from `low` on is none below it
apart : (b k low : ℕ) → k < low → nat_le low b ≡ true → (b == k) ≡ false
apart b k low below h = let l = leb-true low b h in ne_eqb b k (omega arith)

plain_part : (w : List ℕ) → is_plain w ≡ true → is_part w ≡ true
plain_part [] h = refl
plain_part (b ∷ w) h =
    let p = and_parts (nat_le 32 b) (is_plain w) h in
    λ i. not (apart b 10 32 (omega arith) p.0 i) && plain_part w p.1 i

plain_at : (w : List ℕ) (n : ℕ) → is_plain w ≡ true → (get_or w n 0 == 13) ≡ false
plain_at [] n h = refl
plain_at (b ∷ w) zero h = let p = and_parts (nat_le 32 b) (is_plain w) h in apart b 13 32 (omega arith) p.0
plain_at (b ∷ w) (suc n) h = let p = and_parts (nat_le 32 b) (is_plain w) h in plain_at w n p.1

pub plain_whole : (w : List ℕ) → is_plain w ≡ true → strip_carriage_return w ≡ w
plain_whole w h = λ i. cond (plain_at w (length w - 1) h i) (take (length w - 1) w) w

-- the first line
pub split_line : (w more : List ℕ) → 0 < length w → is_plain w ≡ true → lines_of ((w ++ 10 ∷ []) ++ more) ≡ whole w ∷ lines_of more
split_line w more some h =
    ap lines_of (append_assoc w (10 ∷ []) more) ∙ part_lines w (10 ∷ more) some (plain_part w h)
    ∙ ap (λ (l : List ℕ). whole l ∷ lines_of more) (append-nil w)

plain_append : (x y : List ℕ) → is_plain x ≡ true → is_plain y ≡ true → is_plain (x ++ y) ≡ true
plain_append x y h k = list_all-append (nat_le 32) x y ∙ (λ i. h i && k i)

number_kept : (n : ℕ) (w rest : List ℕ) → IsNumeral n w → is_passed_over (w ++ rest) ≡ false
number_kept n [] rest h = let s = h.some in absurd (omega arith)
number_kept n (b ∷ w) rest h =
    let d = and_parts (is_digit b) (list_all is_digit w) h.digits in
    let low = and_parts (nat_le 48 b) (nat_le b 57) d.0 in
    λ i. cond (apart b 32 48 (omega arith) low.0 i || apart b 9 48 (omega arith) low.0 i) (is_passed_over (w ++ rest))
    (apart b 35 48 (omega arith) low.0 i)

-- an entry's line
abbrev pub entry_line : List ℕ → List ℕ → List ℕ → List ℕ
entry_line date kind unit = date ++ (codes " m" ++ (kind ++ (codes "[u" ++ (unit ++ codes "]"))))

pub entry_ended : (date kind unit : ℕ) → line_text date kind unit ≡ entry_line (decimal date) (decimal kind) (decimal unit) ++ 10 ∷ []
entry_ended date kind unit = by (decimal date) (decimal kind) (decimal unit)
  where
    by : (a b d : List ℕ) → a ++ codes " m" ++ b ++ codes "[u" ++ d ++ codes "]\n" ≡ entry_line a b d ++ 10 ∷ []
    by a b d = simp append_assoc

entry_tokens : (a b u : ℕ) (date kind unit : List ℕ) → IsNumeral a date → IsNumeral b kind → IsNumeral u unit
    → read (entry_line date kind unit) ≡ Some (Word date ∷ Word (109 ∷ kind) ∷ Mark 91 ∷ Word (117 ∷ unit) ∷ Mark 93 ∷ [])
entry_tokens a b u date kind unit h k j =
    front_number a date (32 ∷ 109 ∷ (kind ++ 91 ∷ 117 ∷ (unit ++ 93 ∷ []))) h refl
    ∙ ap (option_map (λ ts. Word date ∷ ts)) (front_word 109 kind (91 ∷ 117 ∷ (unit ++ 93 ∷ [])) (digits_symbols kind k.digits) refl)
    ∙ ap (λ o. option_map (λ ts. Word date ∷ ts) (option_map (λ ts. Word (109 ∷ kind) ∷ ts) (option_map (λ ts. Mark 91 ∷ ts) o)))
    (front_word 117 unit (93 ∷ []) (digits_symbols unit j.digits) refl)

entry_short : (date kind unit : List ℕ) → length date ≤ 13 → length kind ≤ 13 → length unit ≤ 13 → length (entry_line date kind unit) ≤ 4096
entry_short date kind unit a b c = simp length-append (omega arith)

entry_some : (date kind unit : List ℕ) → 0 < length date → 0 < length (entry_line date kind unit)
entry_some date kind unit h = simp length-append (omega arith)

-- a line whose words and marks are these
pub record IsWritten (w : List ℕ) (ts : List Token) : Type 0 where
  pub some : 0 < length w
  pub short : length w ≤ 4096
  pub plain : is_plain w ≡ true
  pub kept : is_passed_over w ≡ false
  pub tokens : tokens_of is_log_mark w ≡ Some ts

pub entry_written : (a b u : ℕ) (date kind unit : List ℕ) → IsNumeral a date → IsNumeral b kind → IsNumeral u unit
    → IsWritten (entry_line date kind unit) (Word date ∷ Word (109 ∷ kind) ∷ Mark 91 ∷ Word (117 ∷ unit) ∷ Mark 93 ∷ [])
entry_written a b u date kind unit h k j = record {
  some = entry_some date kind unit h.some;
  short = entry_short date kind unit h.few k.few j.few;
  plain = plain_append date (32 ∷ 109 ∷ (kind ++ 91 ∷ 117 ∷ (unit ++ 93 ∷ []))) (digits_plain date h.digits)
      (plain_append kind (91 ∷ 117 ∷ (unit ++ 93 ∷ [])) (digits_plain kind k.digits)
      (plain_append unit (93 ∷ []) (digits_plain unit j.digits) refl));
  kept = number_kept a date (32 ∷ 109 ∷ (kind ++ 91 ∷ 117 ∷ (unit ++ 93 ∷ []))) h;
  tokens = entry_tokens a b u date kind unit h k j;
}

-- a clock mark's line
abbrev pub clock_line : List ℕ → List ℕ
clock_line date = codes "clock " ++ date

pub clock_written : (a : ℕ) (date : List ℕ) → IsNumeral a date → IsWritten (clock_line date) (Word (codes "clock") ∷ Word date ∷ [])
clock_written a date h = let few = h.few in record {
  some = omega arith;
  short = omega arith;
  plain = digits_plain date h.digits;
  kept = refl;
  tokens = front_word 99 (codes "lock") (32 ∷ date) refl refl
      ∙ ap (option_map (λ ts. Word (codes "clock") ∷ ts)) (ap read (sym (append-nil date)) ∙ front_number a date [] h refl);
}
