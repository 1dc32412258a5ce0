-- The line of a refusal, which makes no claim.
use Rattle.std.proofs.Common.{◌≡◌, ◌∙◌, ap, refl, ℕ, zero, suc, ◌+◌, ◌/◌, ◌%◌, ◌<◌, ◌==◌, ◌&&◌, nat_lt, Bool, true, false, le-leb, List, [], ◌∷◌, ◌++◌, length, arith, append_assoc, mod-lt}
use Rattle.std.specs.Prelude.{codes, decimal, if◌then◌else◌}
use Rattle.std.specs.List.{list_all}
use Rattle.std.specs.Fmt.{digits, digits_onto, digit_glyph}
use Rattle.crs_base.specs.Numbers.{is_digit}
use Rattle.crs_base.proofs.LineSteps.{whole}
use Rattle.crs_drill.proofs.MadeLines.{is_plain}
use Rattle.crs_report.specs.declared.refusals.Fault.{Fault}
use Rattle.crs_report.specs.declared.refusals.Fault.TheVariants.{Long, Form, Order, Back, Late, Arity, Value, Full, Values, Flood}
use Rattle.crs_report.specs.OutputLines.{fault_text, refusal_line}
use Rattle.crs_audit.specs.Claims.{Other, said_of}
use Rattle.crs_laws.proofs.CitedWords.{digits_said, digits_plain, plain_both}

-- ---- the digits of any number

digit_is : (d : ℕ) → d < 10 → is_digit (digit_glyph false d) ≡ true
digit_is d small = (λ i. is_digit (if less i then 48 + d else 87 + d)) ∙ (λ i. le-leb 48 (48 + d) (omega arith) i && le-leb (48 + d) 57 (omega arith) i)
  where
    less : nat_lt d 10 ≡ true
    less = grind (arith, small)

record AreDigits (w : List ℕ) : Type 0 where
  some : 0 < length w
  digits : list_all is_digit w ≡ true

put_digit : (d : ℕ) (w : List ℕ) → d < 10 → list_all is_digit w ≡ true → AreDigits (digit_glyph false d ∷ w)
put_digit d w small h = record { some = omega arith; digits = λ i. digit_is d small i && h i }

digits_put : (k n : ℕ) (w : List ℕ) → AreDigits w → AreDigits (digits_onto k 10 false n w)
digits_put zero n w h = h
digits_put (suc k) n w h =
    let one = put_digit (n % 10) w (mod-lt n (omega arith)) h.digits in
    by (n / 10 == 0) one (digits_put k (n / 10) (digit_glyph false (n % 10) ∷ w) one)
  where
    by : (b : Bool) → AreDigits (digit_glyph false (n % 10) ∷ w) → AreDigits (digits_onto k 10 false (n / 10) (digit_glyph false (n % 10) ∷ w))
        → AreDigits (if b then digit_glyph false (n % 10) ∷ w else digits_onto k 10 false (n / 10) (digit_glyph false (n % 10) ∷ w))
    by true one rest = one
    by false one rest = rest

digits_from : (k n : ℕ) → AreDigits (digits_onto (suc k) 10 false n [])
digits_from k n = by (n / 10 == 0)
  where
    one : AreDigits (digit_glyph false (n % 10) ∷ [])
    one = put_digit (n % 10) [] (mod-lt n (omega arith)) refl

    by : (b : Bool) → AreDigits (if b then digit_glyph false (n % 10) ∷ [] else digits_onto k 10 false (n / 10) (digit_glyph false (n % 10) ∷ []))
    by true = one
    by false = digits_put k (n / 10) (digit_glyph false (n % 10) ∷ []) one

number_digits : (n : ℕ) → AreDigits (decimal n)
unfolding digits
number_digits n = digits_from 63 n

-- ---- the line

-- without its line feed
abbrev pub refusal_body : ℕ → Fault → List ℕ
refusal_body n fault = codes "line" ++ 32 ∷ (decimal n ++ 32 ∷ fault_text fault)

pub refusal_is : (n : ℕ) (fault : Fault) → refusal_line n fault ≡ refusal_body n fault ++ 10 ∷ []
refusal_is n fault = ap (λ (t : List ℕ). (codes "line" ++ 32 ∷ t) ++ 10 ∷ []) (append_assoc (decimal n) (codes " ") (fault_text fault))

plain_number : (n : ℕ) → is_plain (decimal n) ≡ true
plain_number n = digits_plain (decimal n) (number_digits n).digits

plain_fault : (fault : Fault) → is_plain (fault_text fault) ≡ true
plain_fault Long = refl
plain_fault Form = refl
plain_fault Order = refl
plain_fault (Back t last) =
    plain_both (codes "back " ++ decimal t ++ codes " ") (decimal last)
    (plain_both (codes "back " ++ decimal t) (codes " ") (plain_both (codes "back ") (decimal t) refl (plain_number t)) refl) (plain_number last)
plain_fault (Late date horizon) =
    plain_both (codes "late " ++ decimal date ++ codes " ") (decimal horizon)
    (plain_both (codes "late " ++ decimal date) (codes " ") (plain_both (codes "late ") (decimal date) refl (plain_number date)) refl) (plain_number horizon)
plain_fault Arity = refl
plain_fault Value = refl
plain_fault (Full limit) = plain_both (codes "full ") (decimal limit) refl (plain_number limit)
plain_fault (Values limit) = plain_both (codes "values ") (decimal limit) refl (plain_number limit)
plain_fault (Flood limit) = plain_both (codes "flood ") (decimal limit) refl (plain_number limit)

pub refusal_plain : (n : ℕ) (fault : Fault) → is_plain (refusal_body n fault) ≡ true
refusal_plain n fault = plain_both (codes "line") (32 ∷ (decimal n ++ 32 ∷ fault_text fault)) refl
    (plain_both (decimal n) (32 ∷ fault_text fault) (plain_number n) (plain_fault fault))

-- its second word is a number
pub refusal_said : (n : ℕ) (fault : Fault) → said_of (whole (refusal_body n fault)) ≡ Other
refusal_said n fault =
    let d = number_digits n in
    digits_said (codes "line") (decimal n) (fault_text fault) (omega arith, refl) d.some d.digits (refusal_plain n fault)
