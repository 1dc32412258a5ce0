-- A statement that is read can be written.
use Rattle.std.proofs.Common.{◌≡◌, ℕ, ℤ, pos, zero, suc, ◌+◌, ◌*◌, ◌-◌, ◌<◌, ◌≤◌, Bool, true, false, cond, ◌==◌, ◌&&◌, nat_le, List, [], ◌∷◌, length, Option, Some, None, option_map, refl, sym, subst, arith}
use Rattle.std.specs.Prelude.{neg_ℤ}
use Rattle.std.specs.Int.RustNames.{unsigned_abs}
use Rattle.std.specs.List.{AllByRecursion, list_all}
use Rattle.std.proofs.Math.Nat.{mul-le-mul_left}
use Rattle.std.proofs.lemmas.Bool.{leb-true, and_parts}
use Rattle.crs_base.specs.Numbers.{is_digit, value_on, number_on, number_of, integer_of}
use Rattle.crs_base.specs.Symbols.{is_symbol}
use Rattle.crs_base.specs.Tokens.{Token, Word, Mark}
use Rattle.crs_grammar.specs.Forms.{Part, Keyword, Sign, Symbol, Number, Integer, Gap, Missing, AreWritten, form_of}
use Rattle.crs_grammar.specs.GrammarLaws.{IsWritable}
use Rattle.crs_grammar.specs.Statements.{Statement}
use Rattle.crs_parse.proofs.HeldReading.{IsWritten}
use Rattle.crs_print.proofs.Lines.{Writable}

abbrev tens : ℕ → ℕ
tens zero = 1
tens (suc k) = 10 * tens k

tens_some : (k : ℕ) → 1 ≤ tens k
tens_some zero = omega arith
tens_some (suc k) = let h = tens_some k in omega (arith, h)

digit_few : (c : ℕ) → is_digit c ≡ true → c ≤ 57
digit_few c h = leb-true c 57 (and_parts (nat_le 48 c) (nat_le c 57) h).1

-- digits write a number below a power of ten
value_below : (cs : List ℕ) (k n : ℕ) → length cs ≤ k → list_all is_digit cs ≡ true → value_on n cs < (n + 1) * tens k
value_below [] k n few h = let a : n * 1 ≤ n * tens k = mul-le-mul_left n (tens_some k) in let b = tens_some k in omega (arith, a, b)
value_below (c ∷ cs) zero n few h = absurd (omega arith)
value_below (c ∷ cs) (suc k) n few h =
    let d = and_parts (is_digit c) (list_all is_digit cs) h in
    let q = digit_few c d.0 in
    let a : value_on (10 * n + (c - 48)) cs < (10 * n + (c - 48) + 1) * tens k = value_below cs k (10 * n + (c - 48)) (omega arith) d.1 in
    let small : 10 * n + (c - 48) + 1 ≤ 10 * n + 10 = omega arith in
    let b : tens k * (10 * n + (c - 48) + 1) ≤ tens k * (10 * n + 10) = mul-le-mul_left (tens k) small in
    omega (arith, a, b)

number_by : (a b : Bool) (w : List ℕ) (n : ℕ) → length w ≤ 19 → list_all is_digit w ≡ b → cond b (Some (value_on 0 w)) None ≡ Some n → n < 10000000000000000000
number_by a true w n few e h = let k : value_on 0 w ≡ n = cc in let q = value_below w 19 0 few e in omega (arith, k, q)
number_by a false w n few e h = cc

number_few : (b : Bool) (w : List ℕ) (n : ℕ) → (nat_le 1 (length w) && nat_le (length w) 19) ≡ b → cond b (number_on 0 w) None ≡ Some n → n < 10000000000000000000
number_few true w n e h = number_by true (list_all is_digit w) w n (leb-true (length w) 19 (and_parts (nat_le 1 (length w)) (nat_le (length w) 19) e).1) refl h
number_few false w n e h = cc

-- a number that is read has at most 19 digits
number_written : (w : List ℕ) (n : ℕ) → number_of w ≡ Some n → n < 10000000000000000000
number_written w n h = number_few (nat_le 1 (length w) && nat_le (length w) 19) w n refl h

negated_size : (n : ℕ) → unsigned_abs (neg_ℤ (pos n)) ≡ n
negated_size zero = refl
negated_size (suc n) = refl

negated : (o : Option ℕ) (w : List ℕ) (z : ℤ) → number_of w ≡ o → option_map (λ n. neg_ℤ (pos n)) o ≡ Some z → unsigned_abs z < 10000000000000000000
negated None w z e h = cc
negated (Some n) w z e h = let is : neg_ℤ (pos n) ≡ z = cc in subst (λ y. unsigned_abs y < 10000000000000000000) is (subst (λ m. m < 10000000000000000000) (sym (negated_size n)) (number_written w n e))

positive : (o : Option ℕ) (w : List ℕ) (z : ℤ) → number_of w ≡ o → option_map pos o ≡ Some z → unsigned_abs z < 10000000000000000000
positive None w z e h = cc
positive (Some n) w z e h = let is : pos n ≡ z = cc in subst (λ y. unsigned_abs y < 10000000000000000000) is (number_written w n e)

integer_by : (b : Bool) (c : ℕ) (cs : List ℕ) (z : ℤ) → cond b (option_map (λ n. neg_ℤ (pos n)) (number_of cs)) (option_map pos (number_of (c ∷ cs))) ≡ Some z → unsigned_abs z < 10000000000000000000
integer_by true c cs z h = negated (number_of cs) cs z refl h
integer_by false c cs z h = positive (number_of (c ∷ cs)) (c ∷ cs) z refl h

integer_written : (w : List ℕ) (z : ℤ) → integer_of w ≡ Some z → unsigned_abs z < 10000000000000000000
integer_written [] z h = cc
integer_written (c ∷ cs) z h = integer_by (c == 45) c cs z h

-- what tokens write can be written
pub written_writable : (ps : List Part) (ts : List Token) → AreWritten ps ts → AllByRecursion IsWritable ps
written_writable [] ts h = tt
written_writable (Gap ∷ ps) ts h = (tt, written_writable ps ts h)
written_writable (Keyword k ∷ ps) [] h = absurd h
written_writable (Keyword k ∷ ps) (t ∷ ts) h = (tt, written_writable ps ts h.1)
written_writable (Sign m ∷ ps) [] h = absurd h
written_writable (Sign m ∷ ps) (t ∷ ts) h = (tt, written_writable ps ts h.1)
written_writable (Number n ∷ ps) [] h = absurd h
written_writable (Number n ∷ ps) (Mark m ∷ ts) h = absurd h.0
written_writable (Number n ∷ ps) (Word w ∷ ts) h = (number_written w n h.0, written_writable ps ts h.1)
written_writable (Integer z ∷ ps) [] h = absurd h
written_writable (Integer z ∷ ps) (Mark m ∷ ts) h = absurd h.0
written_writable (Integer z ∷ ps) (Word w ∷ ts) h = (integer_written w z h.0, written_writable ps ts h.1)
written_writable (Missing ∷ ps) [] h = absurd h
written_writable (Missing ∷ ps) (t ∷ ts) h = absurd h.0
written_writable (Symbol s ∷ ps) [] h = absurd h
written_writable (Symbol s ∷ ps) (Mark m ∷ ts) h = absurd h.0
written_writable (Symbol s ∷ ps) (Word w ∷ ts) h = (subst (λ x. is_symbol x ≡ true) h.0.0 h.0.1, written_writable ps ts h.1)

-- a statement that was read can be written
pub writable_of : (s : Statement) → IsWritten s → Writable s
writable_of s h = written_writable (form_of s) h.0 h.1
