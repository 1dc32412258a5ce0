-- The date with which a line begins, as its digits are read.
use Rattle.std.proofs.Common.{◌≡◌, ◌≤◌, ◌<◌, ◌+◌, ◌*◌, ◌-◌, ◌^◌, ℕ, true, ◌&&◌, ◌||◌, ◌==◌, nat_le, List, [], ◌∷◌, ◌++◌, length, get_or, take, refl, ap, add-one, pow-suc, ◌∙◌, arith}
use Rattle.std.specs.List.{list_all}
use Rattle.std.proofs.Math.Nat.{pow-le-pow_right}
use Rattle.std.proofs.lemmas.List.{take_more}
use Rattle.std.proofs.lemmas.List.Folds.{list_all-append}
use Rattle.std.proofs.lemmas.Bool.{and_parts}
use borrow.Author.Tests.{leb-true}
use Rattle.crs_base.specs.Numbers.{is_digit, value_on}
use Rattle.crs_base.specs.Symbols.{is_symbol_byte}
use Rattle.crs_log.specs.Dates.{AreDigitsTo}
use Rattle.crs_log.proofs.Places.{word_step}

-- one more digit, and at most 19 of them
pub digits_bound : (n i : ℕ) → n < 10 ^ i → i ≤ 18 → 10 * n + 10 ≤ 10000000000000000000
digits_bound n i h k = let p : 10 ^ i ≤ 10 ^ 18 = pow-le-pow_right (omega arith) k in omega (arith, p)

value_more : (n : ℕ) (w : List ℕ) (b : ℕ) → value_on n (w ++ b ∷ []) ≡ 10 * value_on n w + (b - 48)
value_more n [] b = refl
value_more n (c ∷ w) b = value_more (10 * n + (c - 48)) w b

digit_symbol : (b : ℕ) → is_digit b ≡ true → is_symbol_byte b ≡ true
digit_symbol b h = λ k. h k || (nat_le 65 b && nat_le b 90) || (nat_le 97 b && nat_le b 122) || (b == 95) || (b == 46) || (b == 45)

pub digit_small : (b : ℕ) → is_digit b ≡ true → b - 48 ≤ 9
digit_small b h = let most = leb-true b 57 (and_parts (nat_le 48 b) (nat_le b 57) h).1 in omega (arith, most)

pub digit_below : (n i b : ℕ) → n < 10 ^ i → is_digit b ≡ true → 10 * n + (b - 48) < 10 ^ (i + 1)
digit_below n i b h digit = let d = digit_small b digit in let p : 10 ^ (i + 1) ≡ 10 ^ i * 10 = ap (λ (k : ℕ). 10 ^ k) (add-one i) ∙ pow-suc 10 i in omega (arith, h, d, p)

-- one more digit of the line
pub digits_more : (line : List ℕ) (i n : ℕ) → i < length line → i < 19 → is_digit (get_or line i 0) ≡ true → AreDigitsTo line n i → AreDigitsTo line (10 * n + (get_or line i 0 - 48)) (i + 1)
digits_more line i n l few digit so =
    let b = get_or line i 0 in
    let more = take_more line i 0 l in
    record {
      digits = ap (list_all is_digit) more ∙ list_all-append is_digit (take i line) (b ∷ []) ∙ (λ k. so.digits k && (digit k && true));
      value = ap (value_on 0) more ∙ value_more 0 (take i line) b ∙ ap (λ v. 10 * v + (b - 48)) so.value;
      word = word_step line i l (digit_symbol b digit) ∙ so.word;
      few = omega arith;
      within = omega arith;
    }
